use Rattle.std.proofs.Common.{◌≡◌, Some, length, slice_index, sym, subst, ap, ◌∙◌}
use Rattle.std.proofs.lemmas.Bool.{false≢true}
use Rattle.std.proofs.lemmas.List.{get_or_default, length-map}
use Rattle.wfc_model.proofs.LearnedLemmas.{same_window-Decides}
use Rattle.wfc_pattern.specs.declared.chains.Link.{Link}
use Rattle.wfc_pattern.specs.Chains.{hashes_of}
use Rattle.wfc_pattern.specs.Different.{arisen}
use Rattle.wfc_pattern.proofs.DifferentLemmas.{IsSearched, as_many, search_first, search_next, one_kept, not_kept}
use Rattle.wfc_pattern.proofs.different.Different.has.Goals as goal

pub loop-next-init : goal.loop-next-init
loop-next-init c =
    let A = c.args.arising.now in
    let D = c.args.self.now in
    let long : length D.chains.links.items ≡ length D.numbers.items =
    sym (length-map D.chains.links.items (λ (link : Link). link.hash)) ∙ as_many A.picture.now A.n A.symmetry A.columns D.numbers.items (hashes_of D.chains.links.items) c.args.image.now c.args.hash c.requires.hashes in
    search_first A.picture.now A.n A.symmetry A.columns D.numbers.items (hashes_of D.chains.links.items) c.args.image.now c.args.hash c.requires.hashes c.requires.hash (length D.chains.links.items) long c.latest-next.result c.latest-next.ensures.last

pub returns-then-eq : goal.returns-then-eq
returns-then-eq c =
    let A = c.args.arising.now in
    let D = c.args.self.now in
    let hashes = hashes_of D.chains.links.items in
    let so_far : IsSearched A.picture.now A.n A.symmetry A.columns D.numbers.items hashes c.args.image.now c.args.hash (Some c.in-Some.p) =
    subst (IsSearched A.picture.now A.n A.symmetry A.columns D.numbers.items hashes c.args.image.now c.args.hash) c.in-Some.is c.loop-next.invariant in
    let kept : arisen A.picture.now A.n A.symmetry A.columns (slice_index D.numbers.items c.in-Some.p) ≡ c.write.new.out =
    sym (c.write.ensures.exact ∙ ap (arisen A.picture.now A.n A.symmetry A.columns) (c.index.ensures ∙ get_or_default D.numbers.items c.in-Some.p c.index.result.now 0 so_far.0)) in
    let same : c.write.new.out ≡ c.args.image.now = (same_window-Decides c.write.new.out c.args.image.now).0 (sym c.if-eq.ensures) in
    record { value = sym (one_kept A.picture.now A.n A.symmetry A.columns D.numbers.items hashes c.args.image.now c.args.hash c.in-Some.p so_far.0 (kept ∙ same)) }

pub loop-next-preserved : goal.loop-next-preserved
loop-next-preserved c =
    let A = c.args.arising.now in
    let D = c.args.self.now in
    let hashes = hashes_of D.chains.links.items in
    let so_far : IsSearched A.picture.now A.n A.symmetry A.columns D.numbers.items hashes c.args.image.now c.args.hash (Some c.in-Some.p) =
    subst (IsSearched A.picture.now A.n A.symmetry A.columns D.numbers.items hashes c.args.image.now c.args.hash) c.in-Some.is c.loop-next.invariant in
    let kept : c.write.new.out ≡ arisen A.picture.now A.n A.symmetry A.columns (slice_index D.numbers.items c.in-Some.p) =
    c.write.ensures.exact ∙ ap (arisen A.picture.now A.n A.symmetry A.columns) (c.index.ensures ∙ get_or_default D.numbers.items c.in-Some.p c.index.result.now 0 so_far.0) in
    search_next A.picture.now A.n A.symmetry A.columns D.numbers.items hashes c.args.image.now c.args.hash c.requires.hashes c.requires.hash c.in-Some.p so_far
    (λ same. false≢true (c.if-eq.ensures ∙ (same_window-Decides c.write.new.out c.args.image.now).1 (kept ∙ same))) c.earlier-next.result c.earlier-next.ensures.last

pub returns : goal.returns
returns c =
    let A = c.args.arising.now in
    let D = c.args.self.now in
    let hashes = hashes_of D.chains.links.items in
    record {
      value =
          sym (not_kept A.picture.now A.n A.symmetry A.columns D.numbers.items hashes c.args.image.now c.args.hash
          (subst (IsSearched A.picture.now A.n A.symmetry A.columns D.numbers.items hashes c.args.image.now c.args.hash) c.in_default.is c.loop-next.invariant));
    }
