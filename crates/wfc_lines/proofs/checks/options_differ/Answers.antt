use Rattle.std.proofs.Common.{List, ℕ, codes, decimal, [], ◌++◌, ◌∙◌, ap, subst}
use Rattle.wfc_outside.specs.Sink.{Puts}
use Rattle.wfc_lines.proofs.CheckTexts.{option_parts}
use Rattle.wfc_lines.proofs.checks.options_differ.Goals as goal

pub returns : goal.returns
returns g c =
    let n = c.as_bytes-n.ensures.value ∙ c.format.ensures.text in
    let w = c.as_bytes-width.ensures.value ∙ c.format-2.ensures.text in
    let h = c.as_bytes-height.ensures.value ∙ c.format-3.ensures.text in
    let d = c.as_bytes-depth.ensures.value ∙ c.format-4.ensures.text in
    let s = c.as_bytes-symmetry.ensures.value ∙ c.format-5.ensures.text in
    let a = c.as_bytes-wrap_in.ensures.value ∙ c.format-6.ensures.text ∙ ap decimal c.bit.ensures.value in
    let o = c.as_bytes-wrap_out.ensures.value ∙ c.format-7.ensures.text ∙ ap decimal c.bit-2.ensures.value in
    let f = c.as_bytes-file.ensures.value in
    let same = (λ i. codes "wfc: check OptionsDiffer n=" ++ (n i ++ (codes " width=" ++ (w i ++ (codes " height=" ++ (h i ++ (codes " depth=" ++ (d i ++ (codes " symmetry=" ++ (s i ++ (codes " wrap_in=" ++ (a i ++
    (codes " wrap_out=" ++ (o i ++ (codes " file=" ++ (f i ++ (codes "\n" ++ []))))))))))))))))) ∙ option_parts _ _ _ _ _ _ _ _ in
    record { told = subst (λ (bytes : List ℕ). Puts (g.E.Sink.seen c.args.err.now) (g.E.Sink.seen c.put.new.err) bytes c.put.result) same c.put.ensures.put }
