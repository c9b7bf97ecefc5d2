-- Chains of hashes: one more is put in.
use Rattle.std.proofs.Common.{◌≡◌, ◌≢◌, ℕ, ◌+◌, ◌-◌, ◌%◌, ◌<◌, ◌≤◌, List, [], ◌∷◌, ◌++◌, length, get_or, map, slice_set, slice_index, sym, subst, ap, ◌∙◌, arith, inl, inr, ◌⊎◌, length-append, Option, Some, None}
use Rattle.std.proofs.lemmas.Bool.{cases_eq, cases_lt}
use Rattle.std.proofs.lemmas.List.{get_or-map, length-map, length-set, get_or_append_left, get_or-set_same, get_or-set_other, map-append}
use Rattle.std.proofs.Math.Seq.{get_or-append_seam}
use Rattle.wfc_pattern.specs.declared.chains.Link.{Link}
use Rattle.wfc_pattern.specs.Chains.{hashes_of, IsLastOf, IsPlaceInBucket, IsChained}

-- the places before each hash
abbrev pub befores_of : List Link → List ℕ
befores_of links = map (λ (link : Link). link.before) links

-- what stands in the front of a list with one more
front : (xs : List ℕ) (x k n : ℕ) → n ≡ length xs → k < n → get_or (xs ++ x ∷ []) k 0 ≡ get_or xs k 0
front xs x k n long within = get_or_append_left xs (x ∷ []) 0 k (omega arith)

-- and what stands last
last_one : (xs : List ℕ) (x n : ℕ) → n ≡ length xs → get_or (xs ++ x ∷ []) n 0 ≡ x
last_one xs x n long = ap (λ k. get_or (xs ++ x ∷ []) k 0) long ∙ get_or-append_seam xs x [] 0

-- a place in a bucket stays one
still : (m : ℕ) (hs : List ℕ) (h b bound place n : ℕ) → n ≡ length hs → bound ≤ n → IsPlaceInBucket m hs b bound place → IsPlaceInBucket m (hs ++ h ∷ []) b bound place
still m hs h b bound place n long within old = record {
  within = old.within;
  there = λ some. let in_front : place - 1 < n = omega (arith, old.within) in ap (λ k. k % m) (front hs h (place - 1) n long in_front) ∙ old.there some;
  last = λ k after before same. old.last k after before (ap (λ j. j % m) (sym (front hs h k n long (omega arith))) ∙ same);
}

-- and with one more behind it, if that falls into another bucket
passed : (m : ℕ) (hs : List ℕ) (h b place n : ℕ) → n ≡ length hs → (h % m ≡ b → ⊥) → IsPlaceInBucket m hs b n place → IsPlaceInBucket m (hs ++ h ∷ []) b (n + 1) place
passed m hs h b place n long other old =
    let kept = still m hs h b n place n long (omega arith) old in
    record {
      within = omega (arith, old.within);
      there = kept.there;
      last = λ k after before. by k after (cases_lt k n) (omega arith);
    }
  where
    by : (k : ℕ) → place ≤ k → (k < n) ⊎ (n ≤ k) → k ≤ n → get_or (hs ++ h ∷ []) k 0 % m ≡ b → ⊥
    by k after (inl inside) upto same = (still m hs h b n place n long (omega arith) old).last k after inside same
    by k after (inr outside) upto same =
        let at : n ≡ k = omega arith in
        other (ap (λ j. j % m) (sym (last_one hs h n long) ∙ ap (λ j. get_or (hs ++ h ∷ []) j 0) at) ∙ same)

-- the last of a list is the last place of its bucket
newest : (m : ℕ) (hs : List ℕ) (h n : ℕ) → n ≡ length hs → IsPlaceInBucket m (hs ++ h ∷ []) (h % m) (n + 1) (n + 1)
newest m hs h n long = record {
  within = omega arith;
  there = λ some. let at : n + 1 - 1 ≡ n = omega arith in ap (λ k. get_or (hs ++ h ∷ []) k 0 % m) at ∙ ap (λ k. k % m) (last_one hs h n long);
  last = λ k after before. absurd (omega arith);
}

-- what is found from the last place of its bucket is the last of all
pub found_further : (m : ℕ) (hs : List ℕ) (hash bound place : ℕ) (result : Option ℕ) → IsPlaceInBucket m hs (hash % m) bound place → IsLastOf hs hash place result → IsLastOf hs hash bound result
found_further m hs hash bound place None lead none = λ k before. by k before (cases_lt k place)
  where
    by : (k : ℕ) → k < bound → (k < place) ⊎ (place ≤ k) → slice_index hs k ≢ hash
    by k before (inl inside) same = none k inside same
    by k before (inr outside) same = lead.last k outside before (ap (λ j. j % m) same)
found_further m hs hash bound place (Some p) lead found = record {
  within = omega (arith, lead.within, found.within);
  same = found.same;
  last = λ k after before same. by k after before same (cases_lt k place);
}
  where
    by : (k : ℕ) → p < k → k < bound → slice_index hs k ≡ hash → (k < place) ⊎ (place ≤ k) → ⊥
    by k after before same (inl inside) = found.last k after inside same
    by k after before same (inr outside) = lead.last k outside before (ap (λ j. j % m) same)

-- the hash at a place, and the place before it
pub hash_at : (links : List Link) (link : Link) (p : ℕ) → p < length links → link ≡ get_or links p link → link.hash ≡ slice_index (hashes_of links) p
hash_at links link p within read = sym (get_or-map (λ (l : Link). l.hash) links p link 0 within ∙ ap (λ (l : Link). l.hash) (sym read))

pub before_at : (links : List Link) (link : Link) (p : ℕ) → p < length links → link ≡ get_or links p link → link.before ≡ slice_index (befores_of links) p
before_at links link p within read = sym (get_or-map (λ (l : Link). l.before) links p link 0 within ∙ ap (λ (l : Link). l.before) (sym read))

-- a hash with the place before it is put behind the last, and its bucket led to it
module _ (heads : List ℕ) (links : List Link) (link : Link) (bucket count : ℕ) where
  abbrev m : ℕ
  m = length heads

  abbrev n : ℕ
  n = length links

  abbrev hashes : List ℕ
  hashes = hashes_of links

  abbrev befores : List ℕ
  befores = befores_of links

  abbrev led : List ℕ
  led = slice_set heads bucket count

  long : n ≡ length hashes
  long = sym (length-map links (λ (l : Link). l.hash))

  as_long : n ≡ length befores
  as_long = sym (length-map links (λ (l : Link). l.before))

  head : IsChained heads links → bucket ≡ link.hash % m → bucket < m → count ≡ n + 1 → (b : ℕ) → b < m → (b ≡ bucket) ⊎ (b ≡ bucket → ⊥) → IsPlaceInBucket m (hashes ++ link.hash ∷ []) b (n + 1) (slice_index led b)
  head old falls within counted b inside (inl is) =
      let counts : slice_index led b ≡ n + 1 = ap (slice_index led) is ∙ get_or-set_same heads bucket count 0 within ∙ counted in
      subst (λ k. IsPlaceInBucket m (hashes ++ link.hash ∷ []) b (n + 1) k) (sym counts)
      (subst (λ k. IsPlaceInBucket m (hashes ++ link.hash ∷ []) k (n + 1) (n + 1)) (sym (is ∙ falls)) (newest m hashes link.hash n long))
  head old falls within counted b inside (inr not) =
      subst (λ k. IsPlaceInBucket m (hashes ++ link.hash ∷ []) b (n + 1) k) (sym (get_or-set_other heads bucket b count 0 not))
      (passed m hashes link.hash b (slice_index heads b) n long (λ same. not (sym (falls ∙ same))) (old.heads_lead b inside))

  each : IsChained heads links → bucket ≡ link.hash % m → bucket < m → link.before ≡ slice_index heads bucket → (p : ℕ) → (p < n) ⊎ (n ≤ p) → p ≤ n
      → IsPlaceInBucket m (hashes ++ link.hash ∷ []) (slice_index (hashes ++ link.hash ∷ []) p % m) p (slice_index (befores ++ link.before ∷ []) p)
  each old falls within before p (inl inside) upto =
      subst (λ k. IsPlaceInBucket m (hashes ++ link.hash ∷ []) (k % m) p (slice_index (befores ++ link.before ∷ []) p)) (sym (front hashes link.hash p n long inside))
      (subst (λ k. IsPlaceInBucket m (hashes ++ link.hash ∷ []) (slice_index hashes p % m) p k) (sym (front befores link.before p n as_long inside))
      (still m hashes link.hash (slice_index hashes p % m) p (slice_index befores p) n long upto (old.links_lead p inside)))
  each old falls within before p (inr outside) upto =
      let at : n ≡ p = omega arith in
      subst (λ j. IsPlaceInBucket m (hashes ++ link.hash ∷ []) (slice_index (hashes ++ link.hash ∷ []) j % m) j (slice_index (befores ++ link.before ∷ []) j)) at
      (subst (λ k. IsPlaceInBucket m (hashes ++ link.hash ∷ []) (k % m) n (slice_index (befores ++ link.before ∷ []) n)) (sym (last_one hashes link.hash n long))
      (subst (λ k. IsPlaceInBucket m (hashes ++ link.hash ∷ []) (link.hash % m) n k) (sym (last_one befores link.before n as_long ∙ before))
      (subst (λ b. IsPlaceInBucket m (hashes ++ link.hash ∷ []) b n (slice_index heads bucket)) falls
      (still m hashes link.hash bucket n (slice_index heads bucket) n long (omega arith) (old.heads_lead bucket within)))))

  pub chained_push : IsChained heads links → bucket ≡ link.hash % m → bucket < m → link.before ≡ slice_index heads bucket → count ≡ n + 1 → IsChained led (links ++ link ∷ [])
  chained_push old falls within before counted =
      let same : length led ≡ m = length-set heads bucket count in
      let more : length (links ++ link ∷ []) ≡ n + 1 = omega (arith, length-append links (link ∷ [])) in
      let hashes_are : hashes ++ link.hash ∷ [] ≡ hashes_of (links ++ link ∷ []) = sym (map-append (λ (l : Link). l.hash) links (link ∷ [])) in
      let befores_are : befores ++ link.before ∷ [] ≡ befores_of (links ++ link ∷ []) = sym (map-append (λ (l : Link). l.before) links (link ∷ [])) in
      record {
        some_bucket = omega (arith, same, old.some_bucket);
        heads_lead = λ b b_in.
            let inside : b < m = omega (arith, same) in
            subst (λ k. IsPlaceInBucket k (hashes_of (links ++ link ∷ [])) b (length (links ++ link ∷ [])) (slice_index led b)) (sym same)
            (subst (λ k. IsPlaceInBucket m (hashes_of (links ++ link ∷ [])) b k (slice_index led b)) (sym more)
            (subst (λ us. IsPlaceInBucket m us b (n + 1) (slice_index led b)) hashes_are (head old falls within counted b inside (cases_eq b bucket))));
        links_lead = λ p p_in.
            let upto : p ≤ n = omega (arith, more) in
            subst (λ k. IsPlaceInBucket k (hashes_of (links ++ link ∷ [])) (slice_index (hashes_of (links ++ link ∷ [])) p % k) p (slice_index (befores_of (links ++ link ∷ [])) p)) (sym same)
            (subst (λ us. IsPlaceInBucket m us (slice_index us p % m) p (slice_index (befores_of (links ++ link ∷ [])) p)) hashes_are
            (subst (λ us. IsPlaceInBucket m (hashes ++ link.hash ∷ []) (slice_index (hashes ++ link.hash ∷ []) p % m) p (slice_index us p)) befores_are (each old falls within before p (cases_lt p n) upto)));
      }
