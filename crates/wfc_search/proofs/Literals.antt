-- Lists of literals, taken apart.
use Rattle.std.proofs.Common.{◌≡◌, ◌<◌, ℕ, zero, suc, List, [], ◌∷◌, ◌++◌, length, take, drop, get_or, refl, sym, ◌∙◌, ap, subst, arith, inl, inr, ◌⊎◌, Option, Some, None, append_assoc, length-append}
use Rattle.wfc_problem.specs.declared.Literal.{Literal}
use Rattle.wfc_problem.specs.declared.Literal.TheVariants.{Is, Not}
use Rattle.wfc_search.specs.Run.{Choice, choice_of, behind, last_choice}

-- one more literal is the last, or stands behind
pub push_split : (ls : List Literal) (l : Literal) (before : List Literal) (m : Literal) (after : List Literal) → ls ++ l ∷ [] ≡ before ++ m ∷ after
    → ((ls ≡ before) × (l ≡ m)) ⊎ ((rest : List Literal) × (ls ≡ before ++ m ∷ rest))
push_split [] l [] m after e = inl (refl, cc)
push_split [] l (b ∷ bs) m after e = absurd (omega (arith, ap length e, length-append bs (m ∷ after)))
push_split (x ∷ xs) l [] m after e = inr (xs, cc)
push_split (x ∷ xs) l (b ∷ bs) m after e =
    let tail : xs ++ l ∷ [] ≡ bs ++ m ∷ after = cc in
    let head : x ≡ b = cc in
    elim (push_split xs l bs m after tail) [ inl h ↦ inl (let f = h.0 in cc, h.1) | inr r ↦ inr (r.0, let f = r.1 in cc) ]

-- what stands before a place stands there in a longer list
pub longer : (ls before : List Literal) (m : Literal) (after more : List Literal) → ls ≡ before ++ m ∷ after → ls ++ more ≡ before ++ m ∷ (after ++ more)
longer ls before m after more e = ap (λ (xs : List Literal). xs ++ more) e ∙ append_assoc before (m ∷ after) more

-- the last choice, with what stands before it and behind it
pub record IsLast (ls : List Literal) (last : Choice) : Type 0 where
  pub after : List Literal
  pub none : last_choice after ≡ None
  pub whole : ls ≡ last.before ++ Is last.value last.cell ∷ after

-- a choice behind which there is none is the last
last_first : (l : Literal) (ls : List Literal) (last : Choice) → last_choice ls ≡ None → choice_of l ≡ Some last → IsLast (l ∷ ls) last
last_first (Is value cell) ls last none is =
    let same : record { before = []; cell = cell; value = value } ≡ last = cc in
    subst (λ (c : Choice). IsLast (Is value cell ∷ ls) c) same (record { after = ls; none = none; whole = refl })
last_first (Not value cell) ls last none is = cc

-- the last choice behind one more literal
last_behind : (l : Literal) (ls : List Literal) (o : Option Choice) (last : Choice) → last_choice ls ≡ o → behind l o ≡ Some last
    → ((found : Choice) → last_choice ls ≡ Some found → IsLast ls found) → IsLast (l ∷ ls) last
last_behind l ls None last e is rest = last_first l ls last e is
last_behind l ls (Some found) last e is rest =
    let r = rest found e in
    let same : record { before = l ∷ found.before; cell = found.cell; value = found.value } ≡ last = cc in
    subst (λ (c : Choice). IsLast (l ∷ ls) c) same (record { after = r.after; none = r.none; whole = ap (λ (xs : List Literal). l ∷ xs) r.whole })

-- the last choice, with what stands before and behind it
pub last_is : (ls : List Literal) (last : Choice) → last_choice ls ≡ Some last → IsLast ls last
last_is [] last is = cc
last_is (l ∷ ls) last is = last_behind l ls (last_choice ls) last refl is (last_is ls)

-- without a choice the first literal rules out
none_behind : (l : Literal) (ls : List Literal) (o : Option Choice) → last_choice ls ≡ o → behind l o ≡ None
    → (cell : ℕ) × (value : ℕ) × (l ≡ Not value cell) × (last_choice ls ≡ None)
none_behind (Is value cell) ls None e is = cc
none_behind (Not value cell) ls None e is = (cell, value, refl, e)
none_behind l ls (Some found) e is = cc

-- without a choice each literal rules out
pub none_first : (l : Literal) (ls : List Literal) → last_choice (l ∷ ls) ≡ None → (cell : ℕ) × (value : ℕ) × (l ≡ Not value cell) × (last_choice ls ≡ None)
none_first l ls is = none_behind l ls (last_choice ls) refl is

-- a choice behind which there is none is the last one
pub last_choice_at : (ls : List Literal) (i : ℕ) (d : Literal) (cell value : ℕ) → i < length ls → last_choice (drop (suc i) ls) ≡ None → get_or ls i d ≡ Is value cell
    → Some (record { before = take i ls; cell = cell; value = value }) ≡ last_choice ls
last_choice_at [] i d cell value inside none is = absurd (omega arith)
last_choice_at (l ∷ ls) zero d cell value inside none is = sym (ap choice_of is) ∙ sym (ap (behind l) none)
last_choice_at (l ∷ ls) (suc i) d cell value inside none is = ap (behind l) (last_choice_at ls i d cell value (omega arith) none is)
