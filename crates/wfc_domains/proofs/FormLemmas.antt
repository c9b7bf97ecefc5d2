-- Counters in the form that they are kept in.
use Rattle.std.proofs.Common.{◌≡◌, ℕ, ◌-◌, ◌*◌, ◌/◌, ◌%◌, ◌<◌, ◌≤◌, ◌⊎◌, Bool, true, false, List, length, replicate, set, refl, sym, ◌∙◌, ap, arith, inl, inr}
use Rattle.std.specs.Prelude.{slice_index}
use Rattle.std.proofs.lemmas.Bool.{cases_lt, true≢false}
use Rattle.wfc_domains.specs.Counters.{with_entry}
use Rattle.wfc_domains.specs.Singles.{LimitedEntries}
use Rattle.wfc_domains.specs.Forms.{in_form, table_with, AreCounters}
use Rattle.wfc_domains.specs.declared.counters.Counters.TheInside.{Inside}

-- the entries where two share a byte, and where each has bytes of its own
pub form_paired : (b : Bool) (ps : List ℕ) (s : LimitedEntries) → b ≡ true → in_form b ps s ≡ record { limit = 7; entries = ps }
form_paired b ps s t = ap (λ x. in_form x ps s) t

pub form_alone : (b : Bool) (ps : List ℕ) (s : LimitedEntries) → b ≡ false → in_form b ps s ≡ s
form_alone b ps s f = ap (λ x. in_form x ps s) f

-- the limit tells the form
pub paired_limit : (b : Bool) (ps : List ℕ) (s : LimitedEntries) → 7 < s.limit → (in_form b ps s).limit ≡ 7 → b ≡ true
paired_limit true ps s above e = refl
paired_limit false ps s above e = absurd (omega (arith, above, e))

pub alone_limit : (b : Bool) (ps : List ℕ) (s : LimitedEntries) → ((in_form b ps s).limit ≡ 7 → ⊥) → b ≡ false
alone_limit true ps s ne = absurd (ne refl)
alone_limit false ps s ne = refl

-- one entry set
pub set_paired : (g : ℕ → ℕ) (cells values dirs : ℕ) (b : Bool) (ps ps' : List ℕ) (s : LimitedEntries) (place : ℕ) → b ≡ true → ps' ≡ set ps place (g (slice_index ps place))
    → table_with cells values dirs (in_form b ps' s) ≡ with_entry (table_with cells values dirs (in_form b ps s)) place (g (slice_index (in_form b ps s).entries place))
set_paired g cells values dirs true ps ps' s place t e = ap (λ xs. table_with cells values dirs (record { limit = 7; entries = xs })) e
set_paired g cells values dirs false ps ps' s place t e = absurd (true≢false (sym t))

pub set_alone : (g : ℕ → ℕ) (cells values dirs : ℕ) (b : Bool) (ps : List ℕ) (s s' : LimitedEntries) (place : ℕ) → b ≡ false → s' ≡ record s { entries = set s.entries place (g (slice_index s.entries place)) }
    → table_with cells values dirs (in_form b ps s') ≡ with_entry (table_with cells values dirs (in_form b ps s)) place (g (slice_index (in_form b ps s).entries place))
set_alone g cells values dirs true ps s s' place f e = absurd (true≢false f)
set_alone g cells values dirs false ps s s' place f e = ap (table_with cells values dirs) e

-- what holds of the entries before and after a change
pub paired_related : (R : List ℕ → List ℕ → Type 0) (b : Bool) (ps ps' : List ℕ) (s : LimitedEntries) → b ≡ true → R ps ps' → ((in_form b ps' s).limit ≡ (in_form b ps s).limit) × R (in_form b ps s).entries (in_form b ps' s).entries
paired_related R true ps ps' s t h = (refl, h)
paired_related R false ps ps' s t h = absurd (true≢false (sym t))

pub alone_related : (R : List ℕ → List ℕ → Type 0) (b : Bool) (ps : List ℕ) (s s' : LimitedEntries) → b ≡ false → s'.limit ≡ s.limit → R s.entries s'.entries
    → ((in_form b ps s').limit ≡ (in_form b ps s).limit) × R (in_form b ps s).entries (in_form b ps s').entries
alone_related R true ps s s' f limits h = absurd (true≢false f)
alone_related R false ps s s' f limits h = (limits, h)

-- as many entries as before
long_paired : (b : Bool) (ps ps' : List ℕ) (s : LimitedEntries) → length ps' ≡ length ps → length (in_form b ps' s).entries ≡ length (in_form b ps s).entries
long_paired true ps ps' s e = e
long_paired false ps ps' s e = refl

long_alone : (b : Bool) (ps : List ℕ) (s s' : LimitedEntries) → length s'.entries ≡ length s.entries → length (in_form b ps s').entries ≡ length (in_form b ps s).entries
long_alone true ps s s' e = refl
long_alone false ps s s' e = e

pub counters_paired : (a : Inside) (ps' : List ℕ) → AreCounters a → length ps' ≡ length a.pairs → AreCounters (record a { pairs = ps' })
counters_paired a ps' h e =
    let same = long_paired a.is_paired a.pairs ps' a.singles e in
    record { whole = same ∙ h.whole; few = rw same h.few; even = h.even; sides = h.sides; above = h.above }

pub counters_alone : (a : Inside) (s' : LimitedEntries) → AreCounters a → length s'.entries ≡ length a.singles.entries → s'.limit ≡ a.singles.limit → AreCounters (record a { singles = s' })
counters_alone a s' h e limits =
    let same = long_alone a.is_paired a.pairs a.singles s' e in
    record { whole = same ∙ h.whole; few = rw same h.few; even = h.even; sides = h.sides; above = rw limits h.above }

-- rows of an even length begin at even places
pub even_rows : (c row : ℕ) → row % 2 ≡ 0 → c * row % 2 ≡ 0
even_rows c row even =
    let half : row ≡ 2 * (row / 2) = omega (arith, even) in
    let all : c * row ≡ (c * (row / 2)) * 2 = ap (λ x. c * x) half ∙ (let z : c * (2 * (row / 2)) ≡ (c * (row / 2)) * 2 = omega arith in z) in
    omega (arith, all)

pub even_places : (c n k : ℕ) → n * k % 2 ≡ 0 → (c * n) * k % 2 ≡ 0
even_places c n k even =
    let same : (c * n) * k ≡ c * (n * k) = omega arith in
    ap (λ x. x % 2) same ∙ even_rows c (n * k) even

-- which of two lists has the entries, and how many there are
pub record IsSplitUp (b : Bool) (paired places : ℕ) : Type 0 where
  pub all : b ≡ true → (paired ≡ places) × (places % 2 ≡ 0)
  pub none : b ≡ false → paired ≡ 0

-- no count yet
pub zeros_form : (b : Bool) (ps : List ℕ) (s : LimitedEntries) (paired places : ℕ) → IsSplitUp b paired places → ps ≡ replicate (2 * (paired / 2)) 0 → s.entries ≡ replicate (places - paired) 0 → (in_form b ps s).entries ≡ replicate places 0
zeros_form true ps s paired places h hp hs =
    let all = h.all refl in
    let n : 2 * (paired / 2) ≡ places = omega (arith, all.0, all.1) in
    hp ∙ ap (λ k. replicate k 0) n
zeros_form false ps s paired places h hp hs =
    let none = h.none refl in
    let n : places - paired ≡ places = omega (arith, none) in
    hs ∙ ap (λ k. replicate k 0) n

-- no list is longer than the limit
pub few_form : (b : Bool) (ps : List ℕ) (s : LimitedEntries) (paired places longest large n : ℕ) → IsSplitUp b paired places → (b ≡ true → longest ≤ 7) → 0 < places → 127 ≤ s.limit → (0 < large → s.limit ≡ 32640)
    → (large ≡ 0) ⊎ (large ≡ places - paired) → (0 < places - paired → large ≡ 0 → longest ≤ 127) → n ≤ longest → n ≤ 4096 → n ≤ (in_form b ps s).limit
few_form true ps s paired places longest large n h few some narrow wide both short l small = omega (arith, few refl, l)
few_form false ps s paired places longest large n h few some narrow wide both short l small =
    let none = h.none refl in
    elim (cases_lt 0 large) [
      | inl pos ↦ omega (arith, wide pos, small)
      | inr l' ↦ omega (arith, short (omega (arith, some, none)) (omega arith), narrow, l)
    ]
