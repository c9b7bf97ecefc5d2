use Rattle.std.proofs.Common.{◌≡◌, Some, None, ◌∙◌, set, string_bytes}
use Rattle.wfc_outside.specs.MemoryFolder.{with_file}
use Rattle.wfc_outside.proofs.MemoryFolderLemmas.{Found, replaced, appended, told-with_file, others-with_file}
use Rattle.wfc_outside.proofs.memory_folder.MemoryFolder.add.Goals as goal

-- the files after the bytes of one were replaced
replaced_files : (c : goal.After-drop-name) → set c.self.inside.files.items c.in-Some.place c.replace.new.self ≡ with_file c.self.inside.files.items (string_bytes c.args.name) c.args.bytes.items
replaced_files c =
    let found : Found c.self.inside.files.items (string_bytes c.args.name) (Some c.in-Some.place) = rw (← c.as_str.ensures.value, ← c.deref.ensures.value) c.in-Some.ensures.first in
    replaced _ _ c.args.bytes.items c.in-Some.place c.index_mut.result.now c.replace.new.self found c.index_mut.ensures.value c.replace.ensures.replaced

pub returns-in-Some-clause-ok : goal.returns-in-Some-clause-ok
returns-in-Some-clause-ok c = rw (← c.self.view_is, replaced_files c)

pub returns-in-Some-clause-told : goal.returns-in-Some-clause-told
returns-in-Some-clause-told c = rw (replaced_files c) (told-with_file c.self.inside.files.items (string_bytes c.args.name) _)

pub returns-in-Some-clause-others : goal.returns-in-Some-clause-others
returns-in-Some-clause-others c = rw (← c.self.view_is, replaced_files c) (others-with_file _ _ _)

-- the files after one was added
added_files : (c : goal.In_ok-push-in-None) → c.push.new.self.items ≡ with_file c.self.inside.files.items (string_bytes c.args.name) c.args.bytes.items
added_files c =
    let found : Found c.self.inside.files.items (string_bytes c.args.name) None = rw (← c.as_str.ensures.value, ← c.deref.ensures.value) c.in-None.ensures.first in
    c.in_ok-push-in-None.ensures.items ∙ appended _ _ _ found

pub returns-in_ok-push-in-None-clause-ok : goal.returns-in_ok-push-in-None-clause-ok
returns-in_ok-push-in-None-clause-ok c = rw (← c.self.view_is, added_files c)

pub returns-in_ok-push-in-None-clause-told : goal.returns-in_ok-push-in-None-clause-told
returns-in_ok-push-in-None-clause-told c = rw (added_files c) (told-with_file c.self.inside.files.items (string_bytes c.args.name) _)

pub returns-in_ok-push-in-None-clause-others : goal.returns-in_ok-push-in-None-clause-others
returns-in_ok-push-in-None-clause-others c = rw (← c.self.view_is, added_files c) (others-with_file _ _ _)
