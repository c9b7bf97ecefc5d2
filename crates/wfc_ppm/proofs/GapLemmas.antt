-- Whitespace and comments: where they end, and the gaps that they are.
use Rattle.std.proofs.Common.{◌≡◌, ◌⊎◌, ℕ, ◌<◌, ◌≢◌, ◌==◌, ◌||◌, List, [], ◌∷◌, ◌++◌, length, inl, inr, refl, sym, ap, ◌∙◌, append_assoc, append-nil, arith, true, false, Bool, Option, None, Some, eqb-true, eq-eqb, not, ◌+◌, ◌≤◌, drop, get_or}
use Rattle.std.proofs.lemmas.List.{at_drop_more, at_drop_all, drop_more}
use Rattle.std.proofs.lemmas.Bool.Decides.{nat_tests}
use Rattle.std.specs.List.{AllByRecursion, concat}
use Rattle.wfc_ppm.specs.Fault.{ends_token}
use Rattle.wfc_ppm.specs.Field.{is_space, ends_comment, comment_behind, SpaceEnd, stop_at, stop_of, start_of}
use Rattle.wfc_ppm.specs.Spelling.{IsSpace, IsCommentFront, IsGap, IsTail}

-- ---- bytes

pub space-test : (byte : ℕ) → IsSpace byte → is_space byte ≡ true
space-test byte (inl is) = rw is refl
space-test byte (inr (inl is)) = rw is refl
space-test byte (inr (inr (inl is))) = rw is refl
space-test byte (inr (inr (inr is))) = rw is refl

-- which byte a test of four takes
one_of_four : (a b c d : Bool) (A B C D : Type 0) → (a ≡ true → A) → (b ≡ true → B) → (c ≡ true → C) → (d ≡ true → D) → (a || b || c || d) ≡ true → A ⊎ (B ⊎ (C ⊎ D))
one_of_four true b c d A B C D f g h k is = inl (f refl)
one_of_four false true c d A B C D f g h k is = inr (inl (g refl))
one_of_four false false true d A B C D f g h k is = inr (inr (inl (h refl)))
one_of_four false false false true A B C D f g h k is = inr (inr (inr (k refl)))
one_of_four false false false false A B C D f g h k is = absurd (cc)

pub test-space : (byte : ℕ) → is_space byte ≡ true → IsSpace byte
test-space byte is = one_of_four (byte == 32) (byte == 9) (byte == 13) (byte == 10) (byte ≡ 32) (byte ≡ 9) (byte ≡ 13) (byte ≡ 10) (eqb-true byte 32) (eqb-true byte 9) (eqb-true byte 13) (eqb-true byte 10) is

end-test : (byte : ℕ) → (byte ≡ 10) ⊎ (byte ≡ 13) → ends_comment byte ≡ true
end-test byte (inl is) = rw is refl
end-test byte (inr is) = rw is refl

one_of_two : (a b : Bool) (A B : Type 0) → (a ≡ true → A) → (b ≡ true → B) → (a || b) ≡ true → A ⊎ B
one_of_two true b A B f g is = inl (f refl)
one_of_two false true A B f g is = inr (g refl)
one_of_two false false A B f g is = absurd (cc)

test-end : (byte : ℕ) → ends_comment byte ≡ true → (byte ≡ 10) ⊎ (byte ≡ 13)
test-end byte is = one_of_two (byte == 10) (byte == 13) (byte ≡ 10) (byte ≡ 13) (eqb-true byte 10) (eqb-true byte 13) is

no_end-test : (byte : ℕ) → (byte ≢ 10) × (byte ≢ 13) → ends_comment byte ≡ false
no_end-test byte (no_feed, no_return) = grind (arith, nat_tests)

test-no_end : (byte : ℕ) → ends_comment byte ≡ false → (byte ≢ 10) × (byte ≢ 13)
test-no_end byte is = ((λ e. absurd (feed e)), (λ e. absurd (ret e)))
  where
    feed : byte ≡ 10 → ⊥
    feed e = let on : ends_comment byte ≡ true = rw e refl in cc

    ret : byte ≡ 13 → ⊥
    ret e = let on : ends_comment byte ≡ true = rw e refl in cc

space-behind : (byte : ℕ) → IsSpace byte → comment_behind false byte ≡ Some false
space-behind byte (inl is) = rw is refl
space-behind byte (inr (inl is)) = rw is refl
space-behind byte (inr (inr (inl is))) = rw is refl
space-behind byte (inr (inr (inr is))) = rw is refl

-- what a byte outside a comment is
pub data Outside (byte : ℕ) : Type 0 where
  blank : IsSpace byte → comment_behind false byte ≡ Some false → ends_token (byte ∷ []) ≡ true → Outside byte
  mark : byte ≡ 35 → comment_behind false byte ≡ Some true → ends_token (byte ∷ []) ≡ true → Outside byte
  other : comment_behind false byte ≡ None → ends_token (byte ∷ []) ≡ false → Outside byte

pub outside : (byte : ℕ) → Outside byte
outside byte = by (is_space byte) refl (byte == 35) refl
  where
    by : (space : Bool) → is_space byte ≡ space → (hash : Bool) → (byte == 35) ≡ hash → Outside byte
    by true space hash found = blank (test-space byte space) (rw space refl) (rw space refl)
    by false space true found = mark (eqb-true byte 35 found) (rw (space, found) refl) (rw (space, found) refl)
    by false space false found = other (rw (space, found) refl) (rw (space, found) refl)

-- ---- a front of gaps is passed over

-- one byte on
pub stop-step : (opened : Bool) (byte : ℕ) (text : List ℕ) (found : Option Bool) → comment_behind opened byte ≡ found → stop_of opened (byte ∷ text) ≡ stop_at found (byte ∷ text) (λ next. stop_of next text)
stop-step opened byte text found is = ap (λ next. stop_at next (byte ∷ text) (λ o. stop_of o text)) is

-- one byte of a comment on
in-step : (byte : ℕ) (text : List ℕ) (close : Bool) → ends_comment byte ≡ close → stop_of true (byte ∷ text) ≡ stop_of (not close) text
in-step byte text close is = ap (λ c. stop_of (not c) text) is

in_comment : (body : List ℕ) (close : ℕ) (rest : List ℕ) → AllByRecursion (λ byte. (byte ≢ 10) × (byte ≢ 13)) body → (close ≡ 10) ⊎ (close ≡ 13) → stop_of true (body ++ close ∷ rest) ≡ stop_of false rest
in_comment [] close rest no_end ends = in-step close rest true (end-test close ends)
in_comment (byte ∷ body) close rest no_end ends = in-step byte (body ++ close ∷ rest) false (no_end-test byte no_end.0) ∙ in_comment body close rest no_end.1 ends

pub stop-gap : (gap rest : List ℕ) → IsGap gap → stop_of false (gap ++ rest) ≡ stop_of false rest
stop-gap gap rest (inl (byte, space, is)) = ap (λ g. stop_of false (g ++ rest)) is ∙ stop-step false byte rest (Some false) (space-behind byte space)
stop-gap gap rest (inr comment) =
    ap (λ g. stop_of false (g ++ rest)) (comment.is ∙ ap (λ f. f ++ comment.«end» ∷ []) comment.comment.is)
    ∙ ap (stop_of false) (append_assoc (35 ∷ comment.comment.body) (comment.«end» ∷ []) rest)
    ∙ in_comment comment.comment.body comment.«end» rest comment.comment.no_end comment.ends

pub stop-gaps : (gaps : List (List ℕ)) (rest : List ℕ) → AllByRecursion IsGap gaps → stop_of false (concat gaps ++ rest) ≡ stop_of false rest
stop-gaps [] rest each = refl
stop-gaps (gap ∷ gaps) rest each = ap (stop_of false) (append_assoc gap (concat gaps) rest) ∙ stop-gap gap (concat gaps ++ rest) each.0 ∙ stop-gaps gaps rest each.1

cut_comment : (body : List ℕ) → AllByRecursion (λ byte. (byte ≢ 10) × (byte ≢ 13)) body → stop_of true body ≡ record { rest = []; cut = true }
cut_comment [] no_end = refl
cut_comment (byte ∷ body) no_end = in-step byte body false (no_end-test byte no_end.0) ∙ cut_comment body no_end.1

-- behind the last gaps nothing stands
pub start-tail : (tail : List ℕ) → IsTail tail → start_of tail ≡ []
start-tail tail ends = ap start_of ends.is ∙ ap (λ (stop : SpaceEnd). stop.rest) (stop-gaps ends.gaps ends.cut ends.each) ∙ last ends.cut ends.last
  where
    last : (cut : List ℕ) → (cut ≡ []) ⊎ IsCommentFront cut → start_of cut ≡ []
    last cut (inl none) = rw none refl
    last cut (inr front) = ap start_of front.is ∙ ap (λ (stop : SpaceEnd). stop.rest) (cut_comment front.body front.no_end)

-- a byte that is no gap's stays
pub stop-other : (byte : ℕ) (text : List ℕ) → comment_behind false byte ≡ None → stop_of false (byte ∷ text) ≡ record { rest = byte ∷ text; cut = false }
stop-other byte text none = stop-step false byte text None none

-- ---- gaps end a token

gap-ends : (gap rest : List ℕ) → IsGap gap → ends_token (gap ++ rest) ≡ true
gap-ends gap rest (inl (byte, space, is)) = let test = space-test byte space in ap (λ g. ends_token (g ++ rest)) is ∙ (rw test refl)
gap-ends gap rest (inr comment) = ap (λ g. ends_token (g ++ rest)) (comment.is ∙ ap (λ f. f ++ comment.«end» ∷ []) comment.comment.is)

pub gaps-end : (gaps : List (List ℕ)) (rest : List ℕ) → AllByRecursion IsGap gaps → 0 < length gaps → ends_token (concat gaps ++ rest) ≡ true
gaps-end [] rest each some = absurd (omega arith)
gaps-end (gap ∷ gaps) rest each some = ap ends_token (append_assoc gap (concat gaps) rest) ∙ gap-ends gap (concat gaps ++ rest) each.0

pub tail-ends : (tail : List ℕ) → IsTail tail → ends_token tail ≡ true
tail-ends tail ends = ap ends_token ends.is ∙ by ends.gaps ends.each
  where
    last : (cut : List ℕ) → (cut ≡ []) ⊎ IsCommentFront cut → ends_token cut ≡ true
    last cut (inl none) = rw none refl
    last cut (inr front) = ap ends_token front.is

    by : (gaps : List (List ℕ)) → AllByRecursion IsGap gaps → ends_token (concat gaps ++ ends.cut) ≡ true
    by [] each = last ends.cut ends.last
    by (gap ∷ gaps) each = gaps-end (gap ∷ gaps) ends.cut each (omega arith)

-- ---- a text is gaps, a comment that is cut, if there is one, and what stands behind them

-- how the front of a text ends: whole, or in a comment
pub data Last (cut : List ℕ) (stop : SpaceEnd) : Type 0 where
  whole : cut ≡ [] → stop.cut ≡ false → Last cut stop
  broken : IsCommentFront cut → stop.rest ≡ [] → stop.cut ≡ true → Last cut stop

pub record Parts (text : List ℕ) : Type 0 where
  pub gaps : List (List ℕ)
  pub cut : List ℕ
  pub each : AllByRecursion IsGap gaps
  pub last : Last cut (stop_of false text)
  pub is : text ≡ concat gaps ++ (cut ++ (stop_of false text).rest)

-- what an open comment has: its body, which is all, or ends before a text
pub record Body (text : List ℕ) : Type 0 where
  pub body : List ℕ
  pub no_end : AllByRecursion (λ byte. (byte ≢ 10) × (byte ≢ 13)) body
  pub ends : ((text ≡ body) × (stop_of true text ≡ record { rest = []; cut = true })) ⊎ ((close : ℕ) × (rest : List ℕ) × ((close ≡ 10) ⊎ (close ≡ 13)) × (text ≡ body ++ close ∷ rest) × (stop_of true text ≡ stop_of false rest) × Parts rest)

-- a gap before a text that has parts
with_gap : (gap rest text : List ℕ) → IsGap gap → text ≡ gap ++ rest → stop_of false text ≡ stop_of false rest → Parts rest → Parts text
with_gap gap rest text is front same parts = record {
  gaps = gap ∷ parts.gaps;
  cut = parts.cut;
  each = (is, parts.each);
  last = rw same parts.last;
  is = rw same (front ∙ ap (λ t. gap ++ t) parts.is ∙ sym (append_assoc gap (concat parts.gaps) (parts.cut ++ (stop_of false rest).rest)));
}

outside_parts : (byte : ℕ) (text : List ℕ) → Parts text → Body text → Outside byte → Parts (byte ∷ text)
outside_parts byte text parts body (blank space behind ends) = with_gap (byte ∷ []) text (byte ∷ text) (inl (byte, space, refl)) refl (stop-step false byte text (Some false) behind) parts
outside_parts byte text parts body (mark is behind ends) = by body.ends
  where
    by : ((text ≡ body.body) × (stop_of true text ≡ record { rest = []; cut = true })) ⊎ ((close : ℕ) × (rest : List ℕ) × ((close ≡ 10) ⊎ (close ≡ 13)) × (text ≡ body.body ++ close ∷ rest) × (stop_of true text ≡ stop_of false rest) × Parts rest) → Parts (byte ∷ text)
    by (inl (all, stop)) =
        let same : stop_of false (byte ∷ text) ≡ record { rest = []; cut = true } = stop-step false byte text (Some true) behind ∙ stop in
        record {
          gaps = [];
          cut = byte ∷ text;
          each = tt;
          last = broken (record { body = body.body; is = rw (is, all) refl; no_end = body.no_end }) (ap (λ (s : SpaceEnd). s.rest) same) (ap (λ (s : SpaceEnd). s.cut) same);
          is = rw same (sym (append-nil (byte ∷ text)));
        }
    by (inr (close, rest, ends, all, stop, later)) =
        with_gap ((35 ∷ body.body) ++ close ∷ []) rest (byte ∷ text)
        (inr (record { front = 35 ∷ body.body; «end» = close; is = refl; comment = record { body = body.body; is = refl; no_end = body.no_end }; ends = ends }))
        (rw (is, all) (sym (append_assoc (35 ∷ body.body) (close ∷ []) rest)))
        (stop-step false byte text (Some true) behind ∙ stop) later
outside_parts byte text parts body (other behind ends) = record {
  gaps = [];
  cut = [];
  each = tt;
  last = whole refl (ap (λ (s : SpaceEnd). s.cut) (stop-step false byte text None behind));
  is = sym (ap (λ (s : SpaceEnd). s.rest) (stop-step false byte text None behind));
}

inside_body : (byte : ℕ) (text : List ℕ) → Parts text → Body text → (close : Bool) → ends_comment byte ≡ close → Body (byte ∷ text)
inside_body byte text parts body true test = record { body = []; no_end = tt; ends = inr (byte, text, test-end byte test, refl, in-step byte text true test, parts) }
inside_body byte text parts body false test = record { body = byte ∷ body.body; no_end = (test-no_end byte test, body.no_end); ends = by body.ends }
  where
    by : ((text ≡ body.body) × (stop_of true text ≡ record { rest = []; cut = true })) ⊎ ((close : ℕ) × (rest : List ℕ) × ((close ≡ 10) ⊎ (close ≡ 13)) × (text ≡ body.body ++ close ∷ rest) × (stop_of true text ≡ stop_of false rest) × Parts rest) → ((byte ∷ text ≡ byte ∷ body.body) × (stop_of true (byte ∷ text) ≡ record { rest = []; cut = true })) ⊎ ((close : ℕ) × (rest : List ℕ) × ((close ≡ 10) ⊎ (close ≡ 13)) × (byte ∷ text ≡ (byte ∷ body.body) ++ close ∷ rest) × (stop_of true (byte ∷ text) ≡ stop_of false rest) × Parts rest)
    by (inl (all, stop)) = inl (ap (λ t. byte ∷ t) all, in-step byte text false test ∙ stop)
    by (inr (close, rest, ends, all, stop, later)) = inr (close, rest, ends, ap (λ t. byte ∷ t) all, in-step byte text false test ∙ stop, later)

parts_both : (text : List ℕ) → Parts text × Body text
parts_both [] = (record { gaps = []; cut = []; each = tt; last = whole refl refl; is = refl }, record { body = []; no_end = tt; ends = inl (refl, refl) })
parts_both (byte ∷ text) =
    let later = parts_both text in
    (outside_parts byte text later.0 later.1 (outside byte), inside_body byte text later.0 later.1 (ends_comment byte) refl)

-- every text has these parts
pub parts_of : (text : List ℕ) → Parts text
parts_of text = (parts_both text).0

-- where something stands behind the gaps, none of them is cut
pub parts-whole : (text : List ℕ) → 0 < length (start_of text) → (gaps : List (List ℕ)) × AllByRecursion IsGap gaps × (text ≡ concat gaps ++ start_of text)
parts-whole text some =
    let parts = parts_of text in
    (parts.gaps, parts.each, by parts.gaps parts.cut parts.last parts.is)
  where
    by : (gaps : List (List ℕ)) (cut : List ℕ) → Last cut (stop_of false text) → text ≡ concat gaps ++ (cut ++ (stop_of false text).rest) → text ≡ concat gaps ++ start_of text
    by gaps cut (whole none stop) is = is ∙ ap (λ c. concat gaps ++ (c ++ start_of text)) none
    by gaps cut (broken front none stop) is = absurd (omega (arith, ap length none))

-- what stands behind the gaps is no gap
abbrev pub NoGap : List ℕ → Type 0
NoGap rest = ends_token rest ≡ true → length rest ≡ 0

plain_first : (byte : ℕ) (text : List ℕ) → NoGap (stop_of false text).rest → NoGap (stop_of true text).rest → Outside byte → NoGap (stop_of false (byte ∷ text)).rest
plain_first byte text plain commented (blank space behind ends) = rw (stop-step false byte text (Some false) behind) plain
plain_first byte text plain commented (mark is behind ends) = rw (stop-step false byte text (Some true) behind) commented
plain_first byte text plain commented (other behind ends) = rw (stop-step false byte text None behind) (λ e. absurd (cc))

commented_first : (byte : ℕ) (text : List ℕ) → NoGap (stop_of false text).rest → NoGap (stop_of true text).rest → (close : Bool) → ends_comment byte ≡ close → NoGap (stop_of true (byte ∷ text)).rest
commented_first byte text plain commented true test = rw (in-step byte text true test) plain
commented_first byte text plain commented false test = rw (in-step byte text false test) commented

first_both : (text : List ℕ) → NoGap (stop_of false text).rest × NoGap (stop_of true text).rest
first_both [] = ((λ e. refl), (λ e. refl))
first_both (byte ∷ text) =
    let later = first_both text in
    (plain_first byte text later.0 later.1 (outside byte), commented_first byte text later.0 later.1 (ends_comment byte) refl)

pub start-first : (text : List ℕ) → ends_token (start_of text) ≡ true → length (start_of text) ≡ 0
start-first text = (first_both text).0

-- where gaps stand at the front, a token ends before them
pub longer-ends : (text : List ℕ) → ((length (start_of text) == length text) ≡ false) → ends_token text ≡ true
longer-ends [] longer = refl
longer-ends (byte ∷ text) longer = by (outside byte)
  where
    by : Outside byte → ends_token (byte ∷ text) ≡ true
    by (blank space behind ends) = ends
    by (mark is behind ends) = ends
    by (other behind ends) = let start : length (start_of (byte ∷ text)) ≡ length (byte ∷ text) = ap (λ (s : SpaceEnd). length s.rest) (stop-step false byte text None behind) in let same : (length (start_of (byte ∷ text)) == length (byte ∷ text)) ≡ true = eq-eqb (length (start_of (byte ∷ text))) (length (byte ∷ text)) start in absurd (cc)

-- ---- one byte after another

-- a byte of a gap is passed over
pub stop-more : (opened next : Bool) (text : List ℕ) (at : ℕ) → at < length text → stop_of opened (drop at text) ≡ stop_of false text → comment_behind opened (get_or text at 0) ≡ Some next → stop_of next (drop (at + 1) text) ≡ stop_of false text
stop-more opened next text at inside so_far found =
    sym (at_drop_more (stop_of opened) text at 0 inside ∙ stop-step opened (get_or text at 0) (drop (at + 1) text) (Some next) found) ∙ so_far

-- another byte is where they end
pub stop-here : (opened : Bool) (text : List ℕ) (at : ℕ) → at < length text → stop_of opened (drop at text) ≡ stop_of false text → comment_behind opened (get_or text at 0) ≡ None → stop_of false text ≡ record { rest = drop at text; cut = false }
stop-here opened text at inside so_far found =
    sym so_far ∙ at_drop_more (stop_of opened) text at 0 inside ∙ stop-step opened (get_or text at 0) (drop (at + 1) text) None found
    ∙ ap (λ rest. record { rest = rest; cut = false }) (sym (drop_more text at 0 inside))

-- so is the text's end
pub stop-end : (opened : Bool) (text : List ℕ) (at : ℕ) → length text ≤ at → stop_of opened (drop at text) ≡ stop_of false text → stop_of false text ≡ record { rest = []; cut = opened }
stop-end opened text at past so_far = sym so_far ∙ at_drop_all (stop_of opened) text at past
