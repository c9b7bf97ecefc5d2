use Rattle.std.proofs.Common.{◌≡◌, ◌<◌, ◌∷◌, ◌++◌, [], ◌∙◌, ap, sym, subst, arith, length, set, ◌-◌}
use Rattle.std.specs.Prelude.{All, slice_index}
use Rattle.std.proofs.lemmas.List.{length-set}
use Rattle.std.proofs.lemmas.List.Elements.{All-push}
use Rattle.wfc_log.specs.Kept.{sizes_in}
use Rattle.wfc_log.specs.Numbered.{first_sizes, placed_removals, removal_count, removal_number}
use Rattle.wfc_log.proofs.NumberedLemmas.{place-few, placed-length}
use Rattle.wfc_log.proofs.OlderLemmas.{first-more, left-is, removals-more}
use Rattle.wfc_log.proofs.older.Older.push.Goals as goal

pub push-requires-clause-room : goal.push-requires-clause-room
push-requires-clause-room c =
    let a = c.self.inside in
    let h = rw (← c.self.view_is) at c.requires.room in
    omega (arith, h, placed-length a.values a.dirs (sizes_in a) a.numbers.numbers)

pub invariant_of-self : goal.invariant_of-self
invariant_of-self c =
    let a = c.self.inside in
    let h = c.self.invariant in
    let r = c.args.removal in
    let s = a.sizes.items in
    let ns = a.numbers.numbers in
    let logged = rw (← c.self.view_is) at c.requires.logged in
    let before = logged.before ∙ ap (λ t. slice_index t r.cell) (left-is a.values a.dirs s ns) in
    let long = length-set s r.cell (r.before - 1) in
    let number : c.removal_number.result ≡ removal_number a.values a.dirs r = c.removal_number.ensures.value in
    let more : c.push.new.self.numbers ≡ ns ++ removal_number a.values a.dirs r ∷ [] = ap (λ z. z.numbers) c.push.ensures.more ∙ ap (λ n. ns ++ n ∷ []) number in
    let few : removal_number a.values a.dirs r < removal_count (length s) a.values a.dirs = place-few (length s) a.values a.dirs r logged.inside.cell_in logged.inside.value_in logged.inside.cause_in in
    let all = All-push (λ n. n < removal_count (length s) a.values a.dirs) ns (removal_number a.values a.dirs r) h.numbers_in few in
    let first = ap (first_sizes a.values a.dirs (set s r.cell (r.before - 1))) more ∙ first-more a.values a.dirs s ns r logged.inside.value_in logged.inside.cause_in before logged.some in
    record {
      some_value = h.some_value;
      few_places = omega (arith, ap (λ k. removal_count k a.values a.dirs) long, h.few_places);
      places_in = omega (arith, ap (λ k. removal_count k a.values a.dirs) long, h.places_in, ap (λ z. z.limit) c.push.ensures.more);
      numbers_in = subst (λ k. All (λ n. n < removal_count k a.values a.dirs) c.push.new.self.numbers) (sym long) (subst (All (λ n. n < removal_count (length s) a.values a.dirs)) (sym more) all);
      few_values = λ k. omega (arith, ap (λ t. slice_index t k) first, h.few_values k);
    }

pub returns : goal.returns
returns c =
    let a = c.self.inside in
    let r = c.args.removal in
    let s = a.sizes.items in
    let ns = a.numbers.numbers in
    let logged = rw (← c.self.view_is) at c.requires.logged in
    let before = logged.before ∙ ap (λ t. slice_index t r.cell) (left-is a.values a.dirs s ns) in
    let long = length-set s r.cell (r.before - 1) in
    let number : c.removal_number.result ≡ removal_number a.values a.dirs r = c.removal_number.ensures.value in
    let more : c.push.new.self.numbers ≡ ns ++ removal_number a.values a.dirs r ∷ [] = ap (λ z. z.numbers) c.push.ensures.more ∙ ap (λ n. ns ++ n ∷ []) number in
    let first = ap (first_sizes a.values a.dirs (set s r.cell (r.before - 1))) more ∙ first-more a.values a.dirs s ns r logged.inside.value_in logged.inside.cause_in before logged.some in
    let removals : placed_removals a.values a.dirs (first_sizes a.values a.dirs (set s r.cell (r.before - 1)) c.push.new.self.numbers) c.push.new.self.numbers ≡ placed_removals a.values a.dirs (sizes_in a) ns ++ r ∷ [] =
    ap (λ t. placed_removals a.values a.dirs t c.push.new.self.numbers) first ∙ ap (placed_removals a.values a.dirs (sizes_in a)) more ∙ removals-more a.values a.dirs s ns r logged.inside.value_in logged.inside.cause_in before in
    let room = ap (λ z. z.room) c.push.ensures.more in
    rw (← c.self.view_is) (record { more = λ i. record { room = room i; extent = record { cells = long i; values = a.values; dirs = a.dirs; sizes = first i }; removals = removals i } })

pub removal_number-requires : goal.removal_number-requires
removal_number-requires c =
    let a = c.self.inside in
    let h = c.self.invariant in
    let r = c.args.removal in
    let logged = rw (← c.self.view_is) at c.requires.logged in
    record { few = omega (arith, place-few (length a.sizes.items) a.values a.dirs r logged.inside.cell_in logged.inside.value_in logged.inside.cause_in, h.few_places) }
