-- How the runners of a race are made.
use Rattle.std.proofs.Common.{All, List, None, Option, [], ap, arith, drop, length, map, refl, subst, suc, sym, take, zero, ℕ, ◌++◌, ◌+◌, ◌<◌, ◌∙◌, ◌∷◌, ◌≡◌, ◌≤◌}
use Rattle.std.proofs.Math.ListN.{get_or, get_or-map}
use Rattle.std.proofs.lemmas.List.{length-map, map-append, take_all}
use Rattle.std.proofs.lemmas.List.Elements.{All-append, All-cons, All-nil}
use Rattle.wfc_choose.specs.Pick.{Rule}
use Rattle.wfc_problem.specs.Network.{Network}
use Rattle.wfc_race.specs.Racers.{Racer, new_racer}
use Rattle.wfc_race.specs.Rounds.{round_end_of}
use Rattle.wfc_race.specs.Seen.{IsRunner, Seen, racer_of, racers_of}
use Rattle.wfc_race.specs.declared.RaceEnd.{RaceEnd}
use Rattle.wfc_run_commands.specs.Races.{entrants}
use Rattle.wfc_runs.specs.Words.{words_of_seed}

-- the next of the entrants, and the rules behind it
pub record IsNext (rules : List Rule) (budget seed made : ℕ) (rule : Rule) (rest : List Rule) : Type 0 where
  pub more : take (made + 1) (entrants rules budget seed) ≡ take made (entrants rules budget seed) ++ new_racer rule budget (words_of_seed (seed + made)) ∷ []
  pub behind : drop (made + 1) rules ≡ rest

next_is : (rules : List Rule) (budget seed made : ℕ) (rule : Rule) (rest : List Rule) → drop made rules ≡ rule ∷ rest → IsNext rules budget seed made rule rest
next_is [] budget seed zero rule rest left = absurd (let e = left in cc)
next_is [] budget seed (suc made) rule rest left = absurd (let e = left in cc)
next_is (r ∷ rules) budget seed zero rule rest left =
    let same : r ≡ rule = (let e = left in cc) in
    let behind : rules ≡ rest = (let e = left in cc) in
    let at : seed ≡ seed + 0 = omega arith in
    record {
      more = ap (λ (x : Rule). new_racer x budget (words_of_seed seed) ∷ []) same ∙ ap (λ n. new_racer rule budget (words_of_seed n) ∷ []) at;
      behind = behind;
    }
next_is (r ∷ rules) budget seed (suc made) rule rest left =
    let n = next_is rules budget (seed + 1) made rule rest left in
    let one : suc made + 1 ≡ suc (made + 1) = omega arith in
    let at : seed + 1 + made ≡ seed + suc made = omega arith in
    record {
      more = ap (λ i. take i (entrants (r ∷ rules) budget seed)) one
          ∙ ap (λ (t : List Racer). new_racer r budget (words_of_seed seed) ∷ t) (n.more ∙ ap (λ k. take made (entrants rules budget (seed + 1)) ++ new_racer rule budget (words_of_seed k) ∷ []) at);
      behind = ap (λ i. drop i (r ∷ rules)) one ∙ n.behind;
    }

-- the first choosers have their runners, and the others are left
pub record IsMade {X Y : Type 0} (rule : X → Rule) (f : Y → Seen) (P : Network) (budget seed : ℕ) (all xs : List X) (ys : List Y) (made : ℕ) : Type 0 where
  pub each : All (IsRunner P) (map f ys)
  pub entered : racers_of (map f ys) ≡ take made (entrants (map rule all) budget seed)
  pub left : map rule xs ≡ drop made (map rule all)
  pub many : length xs + made ≡ length all

-- one more
pub one_more : {X Y : Type 0} (rule : X → Rule) (f : Y → Seen) (P : Network) (budget seed : ℕ) (all xs rest : List X) (ys next : List Y) (made : ℕ) (x : X) (y : Y)
    → IsMade rule f P budget seed all xs ys made → next ≡ ys ++ y ∷ [] → 0 < length xs → x ≡ get_or xs 0 x → rest ≡ take 0 xs ++ drop 1 xs
    → IsRunner P (f y) → racer_of (f y) ≡ new_racer (rule x) budget (words_of_seed (seed + made)) → IsMade rule f P budget seed all rest next (made + 1)
one_more rule f P budget seed all [] rest ys next made x y m grown some first rest_is runner is = absurd (omega (arith, some))
one_more {X = X} {Y = Y} rule f P budget seed all (z ∷ xs) rest ys next made x y m grown some first rest_is runner is =
    let tail : rest ≡ xs = rest_is in
    let n = next_is (map rule all) budget seed made (rule z) (map rule xs) (sym m.left) in
    subst (λ (zs : List Y). IsMade rule f P budget seed all rest zs (made + 1)) (sym grown) (record {
      each = subst (λ (ss : List Seen). All (IsRunner P) ss) (sym (map-append f ys (y ∷ [])))
          (All-append (IsRunner P) (map f ys) (f y ∷ []) m.each (All-cons (IsRunner P) (f y) [] runner (All-nil (IsRunner P))));
      entered = ap racers_of (map-append f ys (y ∷ []))
          ∙ map-append racer_of (map f ys) (f y ∷ [])
          ∙ ap (λ (t : List Racer). t ++ racer_of (f y) ∷ []) m.entered
          ∙ ap (λ (r : Racer). take made (entrants (map rule all) budget seed) ++ r ∷ []) (is ∙ ap (λ (w : X). new_racer (rule w) budget (words_of_seed (seed + made))) first)
          ∙ sym n.more;
      left = ap (map rule) tail ∙ sym n.behind;
      many = omega (arith, m.many, ap (λ (t : List X). length t) tail);
    })

-- at first none
pub none_made : {X Y : Type 0} (rule : X → Rule) (f : Y → Seen) (P : Network) (budget seed : ℕ) (all : List X) (ys : List Y) → ys ≡ [] → IsMade rule f P budget seed all all ys 0
none_made {X = X} {Y = Y} rule f P budget seed all ys none = subst (λ (zs : List Y). IsMade rule f P budget seed all all zs 0) (sym none) (record {
  each = All-nil (IsRunner P);
  entered = refl;
  left = refl;
  many = omega arith;
})

-- there is one for each rule
pub length-entrants : (rules : List Rule) (budget seed : ℕ) → length (entrants rules budget seed) ≡ length rules
length-entrants [] budget seed = refl
length-entrants (rule ∷ rules) budget seed = omega (arith, length-entrants rules budget (seed + 1))

-- at last all
pub all_made : {X Y : Type 0} (rule : X → Rule) (f : Y → Seen) (P : Network) (budget seed : ℕ) (all xs : List X) (ys : List Y) (made : ℕ) → IsMade rule f P budget seed all xs ys made
    → length all ≤ made → racers_of (map f ys) ≡ entrants (map rule all) budget seed
all_made rule f P budget seed all xs ys made m enough =
    m.entered ∙ take_all made (entrants (map rule all) budget seed) (omega (arith, enough, length-entrants (map rule all) budget seed, length-map all rule))

-- how many there are
pub many_made : {X Y : Type 0} (rule : X → Rule) (f : Y → Seen) (budget seed : ℕ) (all : List X) (ys : List Y) → racers_of (map f ys) ≡ entrants (map rule all) budget seed → length ys ≡ length all
many_made rule f budget seed all ys is =
    omega (arith, ap (λ (rs : List Racer). length rs) is, length-entrants (map rule all) budget seed, length-map all rule, length-map (map f ys) racer_of, length-map ys f)

-- none of them has an outcome
entrants_free : (rules : List Rule) (budget seed : ℕ) → All (λ (r : Racer). r.outcome ≡ None) (entrants rules budget seed)
entrants_free [] budget seed = All-nil (λ (r : Racer). r.outcome ≡ None)
entrants_free (rule ∷ rules) budget seed =
    All-cons (λ (r : Racer). r.outcome ≡ None) (new_racer rule budget (words_of_seed seed)) (entrants rules budget (seed + 1)) refl (entrants_free rules budget (seed + 1))

pub none_out : {Y : Type 0} (f : Y → Seen) (rules : List Rule) (budget seed : ℕ) (ys : List Y) → racers_of (map f ys) ≡ entrants rules budget seed
    → All (λ (y : Y). (f y).search.course.outcome ≡ None) ys
none_out f rules budget seed ys is k d l =
    let all = subst (λ (rs : List Racer). All (λ (r : Racer). r.outcome ≡ None) rs) (sym is) (entrants_free rules budget seed) in
    let here = all k (racer_of (f d)) (omega (arith, l, length-map (map f ys) racer_of, length-map ys f)) in
    ap (λ (r : Racer). r.outcome) (sym (get_or-map racer_of (map f ys) k (f d) ∙ ap racer_of (get_or-map f ys k d))) ∙ here

-- the end of the race of these entrants
pub raced_is : (P Q : Network) (old rs : List Racer) (quantum : ℕ) (x : Option (RaceEnd × List Racer)) → round_end_of Q old quantum ≡ x → Q ≡ P → old ≡ rs → round_end_of P rs quantum ≡ x
raced_is P Q old rs quantum x is problem entrants_are =
    subst (λ (ys : List Racer). round_end_of P ys quantum ≡ x) entrants_are (subst (λ (R : Network). round_end_of R old quantum ≡ x) problem is)
