use Rattle.std.proofs.Common.{◌≡◌, ◌+◌, ◌≤◌, length, sym, refl, ap, subst, ◌∙◌, arith, inl, inr}
use Rattle.std.specs.Prelude.{slice_index}
use Rattle.std.specs.Vec.{with_items}
use Rattle.std.proofs.lemmas.List.{with_items_is}
use Rattle.wfc_domains.specs.Halves.{entries_from}
use Rattle.wfc_domains.specs.Loaded.{IsRowCopied}
use Rattle.wfc_domains.specs.Singles.{IsCountSplit}
use Rattle.wfc_domains.proofs.HalfLemmas.{halves-length, limit-length}
use Rattle.wfc_domains.proofs.Loading.{copied-entries, split-copied, row_none}
use Rattle.wfc_domains.proofs.singles.Singles.copy.Goals as goal

pub copy_row-requires-clause-dest_in : goal.copy_row-requires-clause-dest_in
copy_row-requires-clause-dest_in c =
    let a = c.self.inside in
    let given = rw (← c.self.view_is) at c.requires.dest_in in
    omega (arith, given, halves-length a.small.items a.large.items, ap length c.deref_mut.ensures.value)

pub copy_row-requires-then-len-gt0-clause-dest_in : goal.copy_row-requires-then-len-gt0-clause-dest_in
copy_row-requires-then-len-gt0-clause-dest_in c =
    let a = c.self.inside in
    let ls = a.large.items in
    let given = rw (← c.self.view_is) at c.requires.dest_in in
    let there : length ls ≡ length a.small.items = elim c.self.invariant.both [ inl none ↦ absurd (omega (arith, none, c.if-len-gt0.true, c.len.ensures, a.large.ok.0)) | inr both ↦ both ] in
    omega (arith, given, there, halves-length a.small.items a.large.items, ap length c.deref_mut-then-len-gt0.ensures.value)

pub invariant_of-self : goal.invariant_of-self
invariant_of-self c =
    let a = c.self.inside in
    let h = c.self.invariant in
    let ss = a.small.items in
    let ls = a.large.items in
    let given = rw (← c.self.view_is) at c.requires.dest_in in
    let inside : c.args.dest + c.args.row ≤ length ss = omega (arith, given, halves-length ss ls) in
    let cs = subst (λ xs. IsRowCopied xs c.copy_row.new.bytes c.args.start c.args.row c.args.dest) c.deref_mut.ensures.value c.copy_row.ensures.copied in
    let same = with_items_is a.small c.copy_row.new.bytes (cs.same_length ∙ sym a.small.ok.0) in
    let cl = subst (λ xs. IsRowCopied xs c.copy_row-then-len-gt0.new.bytes c.args.start c.args.row c.args.dest) c.deref_mut-then-len-gt0.ensures.value c.copy_row-then-len-gt0.ensures.copied in
    let same_large = with_items_is a.large c.copy_row-then-len-gt0.new.bytes (cl.same_length ∙ sym a.large.ok.0) in
    let there : length ls ≡ length ss = elim h.both [ inl none ↦ absurd (omega (arith, none, c.if-len-gt0.true, c.len.ensures, a.large.ok.0)) | inr both ↦ both ] in
    record {
      both = inr (ap length same_large ∙ cl.same_length ∙ there ∙ sym cs.same_length ∙ sym (ap length same));
      each = λ i. subst (λ xs. IsCountSplit (slice_index xs i) (slice_index (with_items a.large c.copy_row-then-len-gt0.new.bytes).items i)) (sym same) (subst (λ ys. IsCountSplit (slice_index c.copy_row.new.bytes i) (slice_index ys i)) (sym same_large) (split-copied _ _ _ _ _ _ _ cs cl h.each i));
    }

pub invariant_of-self-else-len-gt0 : goal.invariant_of-self-else-len-gt0
invariant_of-self-else-len-gt0 c =
    let a = c.self.inside in
    let h = c.self.invariant in
    let ss = a.small.items in
    let ls = a.large.items in
    let given = rw (← c.self.view_is) at c.requires.dest_in in
    let inside : c.args.dest + c.args.row ≤ length ss = omega (arith, given, halves-length ss ls) in
    let cs = subst (λ xs. IsRowCopied xs c.copy_row.new.bytes c.args.start c.args.row c.args.dest) c.deref_mut.ensures.value c.copy_row.ensures.copied in
    let same = with_items_is a.small c.copy_row.new.bytes (cs.same_length ∙ sym a.small.ok.0) in
    let none : length ls ≡ 0 = omega (arith, c.if-len-gt0.false, c.len.ensures, a.large.ok.0) in
    let cl = row_none ls c.args.start c.args.row c.args.dest none in
    record {
      both = inl none;
      each = λ i. subst (λ xs. IsCountSplit (slice_index xs i) (slice_index ls i)) (sym same) (split-copied _ _ _ _ _ _ _ cs cl h.each i);
    }

pub returns-then-len-gt0 : goal.returns-then-len-gt0
returns-then-len-gt0 c =
    let a = c.self.inside in
    let h = c.self.invariant in
    let ss = a.small.items in
    let ls = a.large.items in
    let given = rw (← c.self.view_is) at c.requires.dest_in in
    let inside : c.args.dest + c.args.row ≤ length ss = omega (arith, given, halves-length ss ls) in
    let cs = subst (λ xs. IsRowCopied xs c.copy_row.new.bytes c.args.start c.args.row c.args.dest) c.deref_mut.ensures.value c.copy_row.ensures.copied in
    let same = with_items_is a.small c.copy_row.new.bytes (cs.same_length ∙ sym a.small.ok.0) in
    let cl = subst (λ xs. IsRowCopied xs c.copy_row-then-len-gt0.new.bytes c.args.start c.args.row c.args.dest) c.deref_mut-then-len-gt0.ensures.value c.copy_row-then-len-gt0.ensures.copied in
    let same_large = with_items_is a.large c.copy_row-then-len-gt0.new.bytes (cl.same_length ∙ sym a.large.ok.0) in
    let after = copied-entries ss c.copy_row.new.bytes ls c.copy_row-then-len-gt0.new.bytes c.args.start c.args.row c.args.dest h.both c.requires.before inside cs cl in
    rw (← c.self.view_is) (record {
      limit = limit-length _ ls (ap length same_large ∙ cl.same_length);
      copied = subst (λ xs. IsRowCopied (entries_from ss ls) (entries_from xs (with_items a.large c.copy_row-then-len-gt0.new.bytes).items) c.args.start c.args.row c.args.dest) (sym same) (subst (λ ys. IsRowCopied (entries_from ss ls) (entries_from c.copy_row.new.bytes ys) c.args.start c.args.row c.args.dest) (sym same_large) after);
    })

pub returns-else-len-gt0 : goal.returns-else-len-gt0
returns-else-len-gt0 c =
    let a = c.self.inside in
    let h = c.self.invariant in
    let ss = a.small.items in
    let ls = a.large.items in
    let given = rw (← c.self.view_is) at c.requires.dest_in in
    let inside : c.args.dest + c.args.row ≤ length ss = omega (arith, given, halves-length ss ls) in
    let cs = subst (λ xs. IsRowCopied xs c.copy_row.new.bytes c.args.start c.args.row c.args.dest) c.deref_mut.ensures.value c.copy_row.ensures.copied in
    let same = with_items_is a.small c.copy_row.new.bytes (cs.same_length ∙ sym a.small.ok.0) in
    let none : length ls ≡ 0 = omega (arith, c.if-len-gt0.false, c.len.ensures, a.large.ok.0) in
    let cl = row_none ls c.args.start c.args.row c.args.dest none in
    let after = copied-entries ss c.copy_row.new.bytes ls ls c.args.start c.args.row c.args.dest h.both c.requires.before inside cs cl in
    rw (← c.self.view_is) (record {
      limit = refl;
      copied = subst (λ xs. IsRowCopied (entries_from ss ls) (entries_from xs ls) c.args.start c.args.row c.args.dest) (sym same) after;
    })
