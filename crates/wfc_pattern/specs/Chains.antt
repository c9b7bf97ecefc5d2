-- Hashes in the order in which they came, and the chains that lead from one back to those before it.
use Rattle.std.specs.Prelude.{◌≡◌, ◌≢◌, ℕ, ◌+◌, ◌-◌, ◌*◌, ◌/◌, ◌%◌, ◌^◌, ◌<◌, ◌≤◌, List, length, map, fold, slice_index, Option, None, Some}
use Rattle.wfc_pattern.specs.declared.chains.Link.{Link}

-- the state of a linear congruential generator after a step, into which a number is mixed
abbrev pub next_state : ℕ → ℕ → ℕ
next_state state number = ((state + number) % 2 ^ 64 * 6364136223846793005 % 2 ^ 64 + 1442695040888963407) % 2 ^ 64

-- the hash of a list of numbers: the upper half of the state after all of them
abbrev pub hash_of : List ℕ → ℕ
hash_of numbers = fold next_state 0 numbers / 2 ^ 32

-- the hashes that are kept
abbrev pub hashes_of : List Link → List ℕ
hashes_of links = map (λ (link : Link). link.hash) links

-- of the hashes before `bound`, the last that is this one stands at p
pub record IsLastAt (hashes : List ℕ) (hash bound p : ℕ) : Type 0 where
  pub within : p < bound
  pub same : slice_index hashes p ≡ hash
  pub last : (k : ℕ) → p < k → k < bound → slice_index hashes k ≢ hash

-- and where it stands, if there is one
abbrev pub IsLastOf : List ℕ → ℕ → ℕ → Option ℕ → Type 0
IsLastOf hashes hash bound None = (k : ℕ) → k < bound → slice_index hashes k ≢ hash
IsLastOf hashes hash bound (Some p) = IsLastAt hashes hash bound p

-- one more than the last place before `bound` whose hash falls into a bucket, or 0 where there is none
pub record IsPlaceInBucket (buckets : ℕ) (hashes : List ℕ) (bucket bound place : ℕ) : Type 0 where
  pub within : place ≤ bound
  pub there : 0 < place → slice_index hashes (place - 1) % buckets ≡ bucket
  pub last : (k : ℕ) → place ≤ k → k < bound → slice_index hashes k % buckets ≢ bucket

-- each bucket leads to the last of its hashes, and each hash to the one before it in its bucket
pub record IsChained (heads : List ℕ) (links : List Link) : Type 0 where
  pub some_bucket : 0 < length heads
  pub heads_lead : (bucket : ℕ) → bucket < length heads
      → IsPlaceInBucket (length heads) (hashes_of links) bucket (length links)
      (slice_index heads bucket)
  pub links_lead : (p : ℕ) → p < length links →
      IsPlaceInBucket (length heads) (hashes_of links)
      (slice_index (hashes_of links) p % length heads) p
      (slice_index (map (λ (link : Link). link.before) links) p)
