use Rattle.std.proofs.Common.{◌≡◌, ◌≤◌, length, Ok, IfSome, sym, subst, ap, ◌∙◌, arith, inl}
use Rattle.wfc_model.specs.Learned.{arising, learned}
use Rattle.wfc_pattern.specs.Patterns.{IsPatterns}
use Rattle.wfc_pattern.specs.Tally.{window_counts, patterns_from}
use Rattle.wfc_pattern.specs.declared.TheConstants.{MAX_PATTERNS}
use Rattle.wfc_pattern.proofs.LearningLemmas.{few_enough, learned_are_patterns, length-tallied, patterns_from-tallied}
use Rattle.wfc_pattern.proofs.learning.learn.Goals as goal

pub into_patterns-requires : goal.into_patterns-requires
into_patterns-requires c =
    let sample = c.args.picture.now in
    let ws = arising sample c.args.n c.args.symmetry c.args.wrap in
    let counted : c.in-Some.tally ≡ window_counts ws = subst (λ found. IfSome found (λ tally. tally ≡ window_counts ws)) c.in-Some.is c.in_ok-tally.ensures.tallied in
    let short : length c.in-Some.tally ≤ MAX_PATTERNS = subst (λ found. IfSome found (λ tally. length tally ≤ MAX_PATTERNS)) c.in-Some.is c.in_ok-tally.ensures.few in
    let few : length (learned sample c.args.n c.args.symmetry c.args.wrap) ≤ MAX_PATTERNS = omega (arith, ap length counted, length-tallied ws, short) in
    record {
      patterns =
          subst IsPatterns (sym (ap (patterns_from c.args.n) counted ∙ patterns_from-tallied c.args.n ws))
          (learned_are_patterns sample c.args.n c.args.symmetry c.args.wrap c.is_below_n.ensures.raster c.requires.some_side c.requires.small_side c.requires.some_image c.requires.eight_images c.requires.limit (sym c.if-is_below_n.ensures.value) few);
    }

pub returns-in-Some : goal.returns-in-Some
returns-in-Some c =
    let sample = c.args.picture.now in
    let ws = arising sample c.args.n c.args.symmetry c.args.wrap in
    let counted : c.in-Some.tally ≡ window_counts ws = subst (λ found. IfSome found (λ tally. tally ≡ window_counts ws)) c.in-Some.is c.in_ok-tally.ensures.tallied in
    let short : length c.in-Some.tally ≤ MAX_PATTERNS = subst (λ found. IfSome found (λ tally. length tally ≤ MAX_PATTERNS)) c.in-Some.is c.in_ok-tally.ensures.few in
    let few : length (learned sample c.args.n c.args.symmetry c.args.wrap) ≤ MAX_PATTERNS = omega (arith, ap length counted, length-tallied ws, short) in
    record {
      exact =
          inl (ap Ok (c.into_patterns.ensures.value ∙ ap (patterns_from c.args.n) counted ∙ patterns_from-tallied c.args.n ws)
          ∙ few_enough sample c.args.n c.args.symmetry c.args.wrap (sym c.if-is_below_n.ensures.value) few);
    }
