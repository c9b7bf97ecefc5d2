use Rattle.std.proofs.Common.{◌≡◌, ℕ, ◌/◌, inl, Err, Result, subst, ap, ◌∙◌, length, arith, rules}
use Rattle.std.specs.List.{position_or_len}
use Rattle.std.specs.Prelude.{IfOk}
use Rattle.std.proofs.lemmas.List.{take_all, length-map}
use Rattle.wfc_model.specs.Raster.{Raster, raster_of}
use Rattle.wfc_picture.specs.declared.palette.PaletteFault.{PaletteFault}
use Rattle.wfc_picture.specs.declared.picture.ShapeFault.{ShapeFault}
use Rattle.wfc_picture.specs.declared.symbol.Symbol.TheVariants.{Char}
use Rattle.wfc_picture.specs.Palette.{picture_and_palette, palette_numbers, palette_of}
use Rattle.wfc_picture.specs.Symbol.{same_symbol}
use Rattle.wfc_picture.proofs.PaletteLemmas.{found_more, cells_more, few_more, past_at, none_past, indexed-made, indexed-past, gives_fault}
use Rattle.wfc_picture.proofs.palette.Palette.index.Goals as goal

pub loop-at-preserved : goal.loop-at-preserved
loop-at-preserved c =
    let symbols = c.args.symbols.now in
    let kept = c.in_ok-number_in.ensures.kept in
    record {
      found = found_more symbols c.loop-at.at (Char 0) c.loop-at.found.keys c.loop-at-test.true c.loop-at.invariant.found _ kept;
      cells = rw c.in_ok-push.ensures.items (cells_more symbols c.loop-at.at (Char 0) c.loop-at.found.keys c.loop-at-test.true c.loop-at.invariant.found c.loop-at.cells.items _ c.in_ok-number_in.ensures.number c.loop-at.invariant.cells);
      few = few_more symbols c.loop-at.at (Char 0) c.loop-at.found.keys c.loop-at-test.true c.loop-at.invariant.found _ kept c.in_ok-number_in.ensures.within c.loop-at.invariant.few;
    }

pub returns : goal.returns
returns c =
    let symbols = c.args.symbols.now in
    let at = c.loop-at.at in
    let cells : c.loop-at.cells.items ≡ palette_numbers symbols = c.loop-at.invariant.cells ∙ take_all at (palette_numbers symbols) (omega (arith, c.loop-at-test.false, length-map symbols (λ symbol. position_or_len (same_symbol symbol) (palette_of symbols)))) in
    let made : c.unwrap-picture.result ≡ raster_of c.args.width (length symbols / c.args.width) c.loop-at.cells.items =
    subst (λ (r : Result Raster ShapeFault). IfOk r (λ m. m ≡ raster_of c.args.width (length symbols / c.args.width) c.loop-at.cells.items)) c.unwrap-picture.ensures c.new.ensures.ok in
    let palette : c.loop-at.found.keys ≡ palette_of symbols = c.loop-at.invariant.found ∙ ap palette_of (take_all at symbols c.loop-at-test.false) in
    record {
      exact = inl (indexed-made symbols c.args.width c.unwrap-picture.result c.loop-at.found.keys (none_past symbols at c.loop-at-test.false c.loop-at.invariant.few)
          (made ∙ ap (raster_of c.args.width (length symbols / c.args.width)) cells) palette);
    }

pub returns-in_err-number_in : goal.returns-in_err-number_in
returns-in_err-number_in c =
    let symbols = c.args.symbols.now in
    let fault = c.in_err-number_in.field-0.0 in
    let answered : c.from_residual-in_err-number_in.result ≡ Err fault = search rules in
    record {
      exact = gives_fault c.from_residual-in_err-number_in.result (picture_and_palette symbols c.args.width) fault answered (λ at is.
          let past = c.in_err-number_in.ensures.past at (ap failed is) in
          indexed-past symbols c.args.width at (rw (past.0) (past_at symbols c.loop-at.at (Char 0) c.loop-at.found.keys c.loop-at-test.true c.loop-at.invariant.found past.1 c.loop-at.invariant.few)));
    }
  where
    failed : PaletteFault → Result ℕ PaletteFault
    failed f = Err f
