use Rattle.std.proofs.Common.{◌<◌, ◌+◌, ◌-◌, ◌∷◌, ◌++◌, [], ◌∙◌, ap, sym, subst, arith, length, set}
use Rattle.std.specs.Prelude.{All, slice_index}
use Rattle.std.proofs.lemmas.List.{length-set}
use Rattle.std.proofs.lemmas.List.Elements.{All-take}
use Rattle.wfc_log.specs.Kept.{sizes_in}
use Rattle.wfc_log.specs.Numbered.{first_sizes, removal_count, placed_cell, placed_removals}
use Rattle.wfc_log.proofs.NumberedLemmas.{placed-length}
use Rattle.wfc_log.proofs.OlderLemmas.{kept-cell, pop-removals, taken_back}
use Rattle.wfc_log.proofs.older.Older.pop.Goals as goal

pub index-requires : goal.index-requires
index-requires c =
    let a = c.self.inside in
    let h = c.self.invariant in
    let inside = kept-cell (length a.sizes.items) a.values a.dirs a.numbers.numbers _ _ h.some_value h.numbers_in c.at.ensures.value in
    omega (arith, inside, a.sizes.ok.0, ap (λ l. l.cell) c.placed_loss-loss.ensures.value)

pub overflow_add-before : goal.overflow_add-before
overflow_add-before c =
    let a = c.self.inside in
    let h = c.self.invariant in
    let t = taken_back a.values a.dirs a.sizes.items a.numbers.numbers (c.len-last.result - 1) c.at.result c.placed_loss-loss.result.cell c.index.result.now h.some_value h.numbers_in c.at.ensures.value
    (omega (arith, c.len-last.ensures.value, rw (← c.self.view_is) at c.requires.some, placed-length a.values a.dirs (sizes_in a) a.numbers.numbers)) (ap (λ l. l.cell) c.placed_loss-loss.ensures.value) c.index.ensures in
    omega (arith, t.few, h.few_values (placed_cell a.values a.dirs c.at.result))

pub index_mut-requires : goal.index_mut-requires
index_mut-requires c =
    let a = c.self.inside in
    let h = c.self.invariant in
    let inside = kept-cell (length a.sizes.items) a.values a.dirs a.numbers.numbers _ _ h.some_value h.numbers_in c.at.ensures.value in
    omega (arith, inside, a.sizes.ok.0, ap (λ l. l.cell) c.placed_loss-loss.ensures.value)

pub invariant_of-self : goal.invariant_of-self
invariant_of-self c =
    let a = c.self.inside in
    let h = c.self.invariant in
    let t = taken_back a.values a.dirs a.sizes.items a.numbers.numbers (c.len-last.result - 1) c.at.result c.placed_loss-loss.result.cell c.index.result.now h.some_value h.numbers_in c.at.ensures.value
    (omega (arith, c.len-last.ensures.value, rw (← c.self.view_is) at c.requires.some, placed-length a.values a.dirs (sizes_in a) a.numbers.numbers)) (ap (λ l. l.cell) c.placed_loss-loss.ensures.value) c.index.ensures in
    let few = removal_count (length a.sizes.items) a.values a.dirs in
    let wide = length-set a.sizes.items c.placed_loss-loss.result.cell (c.index.result.now + 1) in
    let front = ap (λ z. z.numbers) c.truncate.ensures.front in
    let all = All-take (λ m. m < few) (c.len-last.result - 1) a.numbers.numbers h.numbers_in in
    record {
      some_value = h.some_value;
      few_places = omega (arith, ap (λ m. removal_count m a.values a.dirs) wide, h.few_places);
      places_in = omega (arith, ap (λ m. removal_count m a.values a.dirs) wide, h.places_in, ap (λ z. z.limit) c.truncate.ensures.front);
      numbers_in = subst (λ m. All (λ x. x < removal_count m a.values a.dirs) c.truncate.new.self.numbers) (sym wide) (subst (All (λ x. x < few)) (sym front) all);
      few_values = λ m. omega (arith, ap (λ s. slice_index s m) (t.first _ front), h.few_values m);
    }

pub returns-clause-last : goal.returns-clause-last
returns-clause-last c =
    let a = c.self.inside in
    let h = c.self.invariant in
    let t = taken_back a.values a.dirs a.sizes.items a.numbers.numbers (c.len-last.result - 1) c.at.result c.placed_loss-loss.result.cell c.index.result.now h.some_value h.numbers_in c.at.ensures.value
    (omega (arith, c.len-last.ensures.value, rw (← c.self.view_is) at c.requires.some, placed-length a.values a.dirs (sizes_in a) a.numbers.numbers)) (ap (λ l. l.cell) c.placed_loss-loss.ensures.value) c.index.ensures in
    let n = c.at.result in
    let l = c.placed_loss-loss.ensures.value in
    let front = ap (λ z. z.numbers) c.truncate.ensures.front in
    rw (← c.self.view_is) (
    pop-removals a.values a.dirs a.sizes.items a.numbers.numbers (c.len-last.result - 1) n c.at.ensures.value
    (omega (arith, c.len-last.ensures.value, rw (← c.self.view_is) at c.requires.some, placed-length a.values a.dirs (sizes_in a) a.numbers.numbers)) t.cell_in
    ∙ sym (λ i. placed_removals a.values a.dirs (first_sizes a.values a.dirs (t.written i) (front i)) (front i) ++ record { cell = (l i).cell; value = (l i).value; before = t.before i + 1; cause = (l i).cause } ∷ [])
    )

pub returns-clause-same : goal.returns-clause-same
returns-clause-same c =
    let a = c.self.inside in
    let h = c.self.invariant in
    let t = taken_back a.values a.dirs a.sizes.items a.numbers.numbers (c.len-last.result - 1) c.at.result c.placed_loss-loss.result.cell c.index.result.now h.some_value h.numbers_in c.at.ensures.value
    (omega (arith, c.len-last.ensures.value, rw (← c.self.view_is) at c.requires.some, placed-length a.values a.dirs (sizes_in a) a.numbers.numbers)) (ap (λ l. l.cell) c.placed_loss-loss.ensures.value) c.index.ensures in
    let written = set a.sizes.items c.placed_loss-loss.result.cell (c.index.result.now + 1) in
    let wide = length-set a.sizes.items c.placed_loss-loss.result.cell (c.index.result.now + 1) in
    let first = t.first _ (ap (λ z. z.numbers) c.truncate.ensures.front) in
    let room = ap (λ z. z.room) c.truncate.ensures.front in
    rw (← c.self.view_is) (λ i. record {
      room = room i;
      extent = record { cells = wide i; values = a.values; dirs = a.dirs; sizes = first i };
      removals = placed_removals a.values a.dirs (first_sizes a.values a.dirs written c.truncate.new.self.numbers) c.truncate.new.self.numbers;
    })
