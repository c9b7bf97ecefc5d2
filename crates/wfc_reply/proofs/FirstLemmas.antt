-- The first rule of a kind, as which the others of it pick.
use Rattle.std.proofs.Common.{Bool, List, Some, [], ap, arith, drop, false, get_or, if◌then◌else◌, length, map, refl, subst, suc, sym, take, true, zero, ℕ, ◌+◌, ◌++◌, ◌<◌, ◌∙◌, ◌∷◌, ◌≡◌, ◌≢◌}
use Rattle.std.proofs.lemmas.List.Elements.{All-cons, All-nil}
use Rattle.std.specs.List.{slice_get}
use Rattle.std.specs.Prelude.{All}
use Rattle.wfc_choose.specs.Pick.{Rule}
use Rattle.wfc_choose.specs.declared.RuleKind.{RuleKind}
use Rattle.wfc_choose.specs.declared.RuleKind.TheVariants.{Fewest, Ranked, Scanline}
use Rattle.wfc_plan.specs.Kinds.{HasChoosers, same_rule}
use Rattle.wfc_reply.proofs.TakingLemmas.{length-of_kind, many_taken}
use Rattle.wfc_reply.specs.Choosers.{first_rule, first_rules, kinds_of, of_kind}
use Rattle.wfc_runs.proofs.CallerLemmas.{plain_alike}
use Rattle.wfc_runs.specs.Alike.{HaveRule, IsPlain}

-- one kind by the test is one
pub kinds_same : (kind other : RuleKind) → same_rule kind other ≡ true → other ≡ kind
kinds_same Scanline Scanline is = refl
kinds_same Fewest Fewest is = refl
kinds_same Ranked Ranked is = refl
kinds_same Scanline Fewest is = absurd (cc (is))
kinds_same Scanline Ranked is = absurd (cc (is))
kinds_same Fewest Scanline is = absurd (cc (is))
kinds_same Fewest Ranked is = absurd (cc (is))
kinds_same Ranked Scanline is = absurd (cc (is))
kinds_same Ranked Fewest is = absurd (cc (is))

-- a rule of this kind
abbrev IsKind : RuleKind → Rule → Type 0
IsKind kind rule = rule.kind ≡ kind

-- the rules of a kind are of it
of_kind_all : (kind : RuleKind) (rules : List Rule) → All (IsKind kind) (of_kind kind rules)
of_kind_all kind [] = All-nil (IsKind kind)
of_kind_all kind (r ∷ rules) = by_test (same_rule kind r.kind) refl (of_kind_all kind rules)
  where
    by_test : (b : Bool) → same_rule kind r.kind ≡ b → All (IsKind kind) (of_kind kind rules) → All (IsKind kind) (if b then r ∷ of_kind kind rules else of_kind kind rules)
    by_test true test rest = All-cons (IsKind kind) r (of_kind kind rules) (kinds_same kind r.kind test) rest
    by_test false test rest = rest

taken_all : {X : Type 0} (P : X → Type 0) (n : ℕ) (xs : List X) → All P xs → All P (take n xs)
taken_all P zero xs all = All-nil P
taken_all P (suc n) [] all = All-nil P
taken_all P (suc n) (x ∷ xs) all = All-cons P x (take n xs) (all zero x (omega arith)) (taken_all P n xs (λ k d h. all (suc k) d (omega (arith, h))))

-- the first of a kind, as which the others pick
pub record HasFirst (kind : RuleKind) (rules : List Rule) (many : ℕ) : Type 0 where
  pub first : Rule
  pub is : first_rule kind rules ≡ Some first
  pub have : HaveRule (first_rules many kind rules) first

pub has_first : (kind : RuleKind) (rules : List Rule) (many least : ℕ) → IsPlain kind → 0 < least → HasChoosers least (kinds_of rules) kind → HasFirst kind rules many
has_first kind rules many least plain some there = by_list (of_kind kind rules) refl
  where
    by_list : (rs : List Rule) → of_kind kind rules ≡ rs → HasFirst kind rules many
    by_list [] is = absurd (omega (arith, some, there, length-of_kind kind rules, ap (λ (rs : List Rule). length rs) is))
    by_list (r ∷ rest) is =
        let all = of_kind_all kind rules in
        let own : r.kind ≡ kind = subst (λ (rs : List Rule). All (IsKind kind) rs) is all zero r (omega arith) in
        record {
          first = r;
          is = ap (λ (rs : List Rule). slice_get rs 0) is;
          have = λ k d h. plain_alike _ r kind plain (taken_all (IsKind kind) many (of_kind kind rules) all k d h) own;
        }

-- a kind that doesn't go by ranks
pub plain_kind : (kind : RuleKind) → kind ≢ Ranked → IsPlain kind
plain_kind Scanline is = tt
plain_kind Fewest is = tt
plain_kind Ranked is = is refl

-- where the first of some is taken away, which is the first of its kind, the others pick as it does
pub record IsTakenFirst {X : Type 0} (rule : X → Rule) (kind : RuleKind) (all rest : List X) (x : X) (many : ℕ) : Type 0 where
  pub first : first_rule kind (map rule all) ≡ Some (rule x)
  pub have : HaveRule (map rule rest) (rule x)
  pub left : length rest + 1 ≡ many

pub taken_first : {X : Type 0} (rule : X → Rule) (kind : RuleKind) (many : ℕ) (all taken rest : List X) (x : X) → IsPlain kind → 0 < many → HasChoosers many (kinds_of (map rule all)) kind
    → map rule taken ≡ first_rules many kind (map rule all) → x ≡ get_or taken 0 x → rest ≡ take 0 taken ++ drop 1 taken → IsTakenFirst rule kind all rest x many
taken_first rule kind many all [] rest x plain some there first is left = absurd (omega (arith, some, many_taken rule many kind all [] first there))
taken_first {X = X} rule kind many all (y ∷ ys) rest x plain some there first is left =
    let others : rest ≡ ys = left in
    let long = many_taken rule many kind all (y ∷ ys) first there in
    let f = has_first kind (map rule all) many many plain some there in
    let have : HaveRule (map rule (y ∷ ys)) f.first = subst (λ (rs : List Rule). HaveRule rs f.first) (sym first) f.have in
    let one : first_rule kind (map rule all) ≡ Some (rule y) = head (of_kind kind (map rule all)) many some (sym first) in
    let same : f.first ≡ rule y = cc (f.is, one) in
    let own : rule y ≡ rule x = ap rule (sym is) in
    record {
      first = one ∙ ap Some own;
      have = subst (λ (zs : List X). HaveRule (map rule zs) (rule x)) (sym others)
          (subst (HaveRule (map rule ys)) (same ∙ own) (λ k d inside. have (suc k) d (omega (arith, inside))));
      left = omega (arith, ap (λ (zs : List X). length zs) others, long);
    }
  where
    head : (rs : List Rule) (many : ℕ) → 0 < many → take many rs ≡ rule y ∷ map rule ys → slice_get rs 0 ≡ Some (rule y)
    head rs zero some is = absurd (omega (arith, some))
    head [] (suc many) some is = absurd (cc (is))
    head (r ∷ rs) (suc many) some is = let same : r ≡ rule y = cc (is) in ap Some same
