-- Literals taken away one after another.
use Rattle.std.proofs.Common.{◌≡◌, ◌-◌, ◌<◌, ◌≤◌, ℕ, length, take, sym, ◌∙◌, ap, subst, arith}
use Rattle.std.proofs.lemmas.List.{length-take-le, take-take}
use Rattle.wfc_domains.specs.Store.{StoreView}
use Rattle.wfc_search.specs.Follow.{IsCutBack}

-- as many are left as were to be kept
pub cut_length : (old new : StoreView) (keep : ℕ) → IsCutBack old new keep → keep ≤ length old.standing → length new.standing ≡ keep
cut_length old new keep cut few = ap length cut.standing ∙ length-take-le keep old.standing few

-- the first one that is taken away
pub cut_first : (old new : StoreView) → IsCutBack old new (length old.standing - 1) → 0 < length old.standing → IsCutBack old new (length new.standing)
cut_first old new cut some =
    subst (λ (n : ℕ). IsCutBack old new n) (sym (cut_length old new (length old.standing - 1) cut (omega arith))) cut

-- and one more
pub cut_next : (old mid new : StoreView) → IsCutBack old mid (length mid.standing) → 0 < length mid.standing → IsCutBack mid new (length mid.standing - 1) → IsCutBack old new (length new.standing)
cut_next old mid new first some next =
    let long : length new.standing ≡ length mid.standing - 1 = cut_length mid new (length mid.standing - 1) next (omega arith) in
    record {
      problem = next.problem ∙ first.problem;
      standing = next.standing ∙ ap (take (length mid.standing - 1)) first.standing ∙ take-take (length mid.standing - 1) (length mid.standing) old.standing (omega arith) ∙ ap (λ (n : ℕ). take n old.standing) (sym long);
      spare = omega (arith, next.spare, first.spare, long);
      alive = next.alive;
    }
