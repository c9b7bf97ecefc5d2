-- The parts of the longer lines on checks, one behind another.
use Rattle.std.proofs.Common.{◌≡◌, ℕ, List, [], ◌++◌, codes, decimal, ap, sym, ◌∙◌, append_assoc}
use Rattle.wfc_lines.specs.Check.{rejected_text}
use Rattle.wfc_lines.specs.Line.{about, line}

-- a refusal that names a value
pub rejected_parts : (row name value file name_is : List ℕ) (row_is value_is : ℕ) (file_is : List ℕ) → row ≡ decimal row_is → name ≡ name_is → value ≡ decimal value_is → file ≡ file_is
    → codes "wfc: check Rejected line=" ++ (row ++ (codes " reject=" ++ (name ++ (value ++ (codes " file=" ++ (file ++ (codes "\n" ++ []))))))) ≡ line (rejected_text row_is (name_is ++ decimal value_is) file_is)
rejected_parts row name value file name_is row_is value_is file_is r n v f =
    (λ i. codes "wfc: check Rejected line=" ++ (r i ++ (codes " reject=" ++ (n i ++ (v i ++ (codes " file=" ++ (f i ++ (codes "\n" ++ []))))))))
    ∙ regroup (decimal row_is) name_is (decimal value_is) file_is
  where
    one_name : (r x f : List ℕ) → codes "wfc: check Rejected line=" ++ (r ++ (codes " reject=" ++ (x ++ (codes " file=" ++ (f ++ (codes "\n" ++ []))))))
        ≡ line (about (codes "check Rejected line=" ++ r ++ codes " reject=" ++ x) f)
    one_name r x f = sym (simp append_assoc)

    regroup : (r n v f : List ℕ) → codes "wfc: check Rejected line=" ++ (r ++ (codes " reject=" ++ (n ++ (v ++ (codes " file=" ++ (f ++ (codes "\n" ++ [])))))))
        ≡ line (about (codes "check Rejected line=" ++ r ++ codes " reject=" ++ (n ++ v)) f)
    regroup r n v f = ap (λ t. codes "wfc: check Rejected line=" ++ (r ++ (codes " reject=" ++ t))) (sym (append_assoc n v (codes " file=" ++ (f ++ (codes "\n" ++ []))))) ∙ one_name r (n ++ v) f

-- the seven fields of a shape
pub option_parts : (n w h d s i o f : List ℕ) → codes "wfc: check OptionsDiffer n=" ++ (n ++ (codes " width=" ++ (w ++ (codes " height=" ++ (h ++ (codes " depth=" ++ (d ++ (codes " symmetry=" ++ (s ++ (codes " wrap_in=" ++ (i ++
    (codes " wrap_out=" ++ (o ++ (codes " file=" ++ (f ++ (codes "\n" ++ []))))))))))))))))
    ≡ line (about (codes "check OptionsDiffer n=" ++ n ++ codes " width=" ++ w ++ codes " height=" ++ h ++ codes " depth=" ++ d ++ codes " symmetry=" ++ s ++ codes " wrap_in=" ++ i ++ codes " wrap_out=" ++ o) f)
option_parts n w h d s i o f = sym (simp append_assoc)
