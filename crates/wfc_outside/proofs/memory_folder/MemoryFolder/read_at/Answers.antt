use Rattle.std.proofs.Common.{rules, ◌≡◌, ℕ, List, Option, Some, None, set, sym, ap, refl, is_some, true, false, arith}
use Rattle.wfc_outside.specs.Folder.{File}
use Rattle.wfc_outside.specs.MemoryFolder.{bytes_of, with_fault}
use Rattle.wfc_outside.proofs.MemoryFolderLemmas.{Found, IsFirstAt, is_piece, absent_found, present_found, counted, first_at, told-with_fault, faults_rise, faults_stay}
use Rattle.wfc_outside.proofs.memory_folder.MemoryFolder.read_at.Goals as goal

-- where no place was found, the name isn't there
absent_here : (c : goal.In_default) → bytes_of c.args.self.now c.args.name.now ≡ None
absent_here c =
    let found : Found c.self.inside.files.items c.args.name.now None = rw (← c.deref.ensures.value) c.in_default.ensures.first in
    rw (← c.self.view_is) (absent_found c.self.inside.files.items c.args.name.now found)

pub returns-in_default-clause-missing_exactly : goal.returns-in_default-clause-missing_exactly
returns-in_default-clause-missing_exactly c = (λ _. absent_here c, λ _. refl)

pub returns-in_default-clause-failed_exactly : goal.returns-in_default-clause-failed_exactly
returns-in_default-clause-failed_exactly c = let absent = absent_here c in (λ wrong. cc, λ both. let some : is_some (bytes_of c.args.self.now c.args.name.now) ≡ true = both.1 in let no_file : is_some (bytes_of c.args.self.now c.args.name.now) ≡ false = ap (λ (o : Option (List ℕ)). is_some o) absent in cc)

-- the place that was found, at a listed call
found_to_fail : (c : goal.After-self-then-contains-1) → Found c.self.inside.files.items c.args.name.now (Some c.in-Some.place)
found_to_fail c = rw (← c.deref.ensures.value) c.in-Some.ensures.first

first_to_fail : (c : goal.After-self-then-contains-1) → IsFirstAt c.self.inside.files.items c.args.name.now c.in-Some.place
first_to_fail c = first_at _ _ c.in-Some.place (sym (found_to_fail c))

present_to_fail : (c : goal.After-self-then-contains-1) → bytes_of c.args.self.now c.args.name.now ≡ Some c.index_mut.result.now.bytes
present_to_fail c = rw (← c.self.view_is) (present_found _ _ c.in-Some.place c.index_mut.result.now (found_to_fail c) c.index_mut.ensures.value)

counted_files : (c : goal.After-self-then-contains-1) → set c.self.inside.files.items c.in-Some.place c.count_fault.new.self ≡ with_fault c.self.inside.files.items c.args.name.now
counted_files c = counted _ _ c.in-Some.place c.index_mut.result.now c.count_fault.new.self (found_to_fail c) c.index_mut.ensures.value c.count_fault.ensures.counted

pub returns-then-contains-clause-missing_exactly :
    goal.returns-then-contains-clause-missing_exactly
returns-then-contains-clause-missing_exactly c = let present = present_to_fail c in (λ wrong. cc, λ absent. cc)

pub returns-then-contains-clause-failed_exactly : goal.returns-then-contains-clause-failed_exactly
returns-then-contains-clause-failed_exactly c = let present = present_to_fail c in (λ _. (search rules, rw present), λ _. refl)

pub returns-then-contains-clause-failed : goal.returns-then-contains-clause-failed
returns-then-contains-clause-failed c = λ _. rw (← c.self.view_is, counted_files c, c.one_more-self-inside.ensures.value)

pub returns-then-contains-clause-counted : goal.returns-then-contains-clause-counted
returns-then-contains-clause-counted c = λ _. rw (counted_files c, ← c.self.view_is) record {
  contents = ap (λ (files : List File). Some files) (told-with_fault _ _);
  counts = λ other. faults_stay _ _ c.in-Some.place c.index_mut.result.now (first_to_fail c) c.index_mut.ensures.value c.count_fault.ensures.rises other;
  counted = faults_rise _ _ c.in-Some.place c.index_mut.result.now (first_to_fail c) c.index_mut.ensures.value c.count_fault.ensures.rises;
}

-- the place that was found, at any other call
present_to_give : (c : goal.After-self-2-1) → bytes_of c.args.self.now c.args.name.now ≡ Some c.index.result.now.bytes
present_to_give c =
    let found : Found c.self.inside.files.items c.args.name.now (Some c.in-Some.place) = rw (← c.deref.ensures.value) c.in-Some.ensures.first in
    rw (← c.self.view_is) (present_found _ _ c.in-Some.place c.index.result.now found c.index.ensures)

pub returns-clause-missing_exactly : goal.returns-clause-missing_exactly
returns-clause-missing_exactly c = let present = present_to_give c in (λ wrong. cc, λ absent. cc)

pub returns-clause-count : goal.returns-clause-count
returns-clause-count c = rw (present_to_give c, ← c.self.view_is) c.give-count.ensures.count

pub returns-clause-given : goal.returns-clause-given
returns-clause-given c = (c.index.result.now.bytes, present_to_give c, is_piece c.index.result.now.bytes c.give-count.new.buf c.args.buf.now c.args.at c.self.inside.piece c.give-count.result c.give-count.ensures.count (omega arith) c.self.invariant c.give-count.ensures.given)
