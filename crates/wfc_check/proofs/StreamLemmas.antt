-- What a stream gives makes, with what is left, what was left before.
use Rattle.std.proofs.Common.{◌≡◌, ℕ, ◌+◌, ◌-◌, ◌<◌, ◌≤◌, true, false, List, [], ◌∷◌, ◌++◌, length, take, drop, get_or, Option, None, Some, ap, sym, ◌∙◌, subst, refl, arith, append_assoc, append-nil, drop-drop, length-append, length-drop}
use Rattle.std.proofs.lemmas.Grind.{common_steps}
use Rattle.std.proofs.lemmas.List.{take-append-drop, drop-take, take-take, take_more, length-take}
use Rattle.std.proofs.lemmas.List.Elements.{All-append}
use Rattle.wfc_outside.specs.Folder.{File, FolderView, IsPieceOf, GivesFrom}
use Rattle.wfc_text.specs.Line.{is_line_feed}
use Rattle.wfc_check.specs.declared.stream.LineEnd.{LineEnd}
use Rattle.wfc_check.specs.Lines.{HasNoLineFeed}
use Rattle.wfc_check.proofs.PlainLemmas.{NoFeed, plain_front, plain_all}
use Rattle.wfc_check.specs.Stream.{EndsLine, Gathering, GathersLine, Gave, HasLeft, IsBehind, IsLeft, IsOver, IsShortLine, HasReadFile, HasGivenKept, HasGiven, FileStreamView}

-- a piece that was read makes, with what stands behind it, what stood behind the bytes before
piece_behind : (contents : Option (List File)) (name buffer behind : List ℕ) (at n : ℕ) → GivesFrom contents name at buffer n → IsBehind contents name (at + n) behind → IsBehind contents name at (take n buffer ++ behind)
piece_behind None name buffer behind at n given told = tt
piece_behind (Some files) name buffer behind at n (file, there, gives) (other, as_told, is) =
    let same : file ≡ other = let both : Some file ≡ Some other = sym there ∙ as_told in cc in
    let here : IsPieceOf other at buffer n = subst (λ (f : List ℕ). IsPieceOf f at buffer n) same gives in
    (other, as_told, ap (λ l. l ++ behind) here.same ∙ ap (λ l. take n (drop at other) ++ l) (is ∙ sym (drop-drop n at other)) ∙ take-append-drop n (drop at other))

-- a stream that keeps nothing reads a piece
pub read_steps : (contents : Option (List File)) (name kept items buffer : List ℕ) (at n room : ℕ) → kept ≡ [] → items ≡ buffer → GivesFrom contents name at buffer n
    → HasGiven contents (record { name = name; kept = kept; at = at; room = room }) (record { name = name; kept = take n items; at = at + n; room = room }) []
read_steps contents name kept items buffer at n room none same given = record {
  room = omega arith;
  back = λ left is. record {
    behind = take n buffer ++ is.behind;
    is = is.is ∙ ap (λ items. take n items ++ is.behind) same ∙ ap (λ l. l ++ (take n buffer ++ is.behind)) (sym none);
    told = piece_behind contents name buffer is.behind at n given is.told;
  };
}

-- and then something is left
pub read_left : (contents : Option (List File)) (name kept buffer : List ℕ) (at n room : ℕ) → GivesFrom contents name at buffer n → HasLeft contents (record { name = name; kept = kept; at = at + n; room = room })
read_left None name kept buffer at n room given = (kept ++ [], record { behind = []; is = refl; told = tt })
read_left (Some files) name kept buffer at n room (file, there, gives) = (kept ++ drop (at + n) file, record { behind = drop (at + n) file; is = refl; told = (file, there, refl) })

-- bytes that were kept make, with what is left, what was left before
passes_steps : (contents : Option (List File)) (old new : FileStreamView) (bytes : List ℕ) → HasGivenKept old new bytes → HasGiven contents old new bytes
passes_steps contents old new bytes passes = record {
  room = passes.room;
  back = λ left is. record {
    behind = is.behind;
    is = ap (λ l. bytes ++ l) is.is ∙ sym (append_assoc bytes new.kept is.behind) ∙ ap (λ l. l ++ is.behind) (sym passes.kept);
    told = subst (λ name. IsBehind contents name old.at is.behind) passes.name (subst (λ at. IsBehind contents new.name at is.behind) passes.at is.told);
  };
}

-- and something is left behind them
passes_left : (contents : Option (List File)) (old new : FileStreamView) (bytes : List ℕ) → HasGivenKept old new bytes → HasLeft contents old → HasLeft contents new
passes_left contents old new bytes passes (left, is) = (
  new.kept ++ is.behind,
  record {
    behind = is.behind;
    is = refl;
    told = subst (λ name. IsBehind contents name new.at is.behind) (sym passes.name) (subst (λ at. IsBehind contents old.name at is.behind) (sym passes.at) is.told);
  },
)

-- the bytes so far, and what comes then
steps_on : (contents : Option (List File)) (old mid new : FileStreamView) (first rest : List ℕ) → HasGiven contents old mid first → HasGiven contents mid new rest → HasGiven contents old new (first ++ rest)
steps_on contents old mid new first rest steps more = record {
  room = omega (arith, steps.room, more.room, length-append first rest);
  back = λ left is. subst (IsLeft contents old) (sym (append_assoc first rest left)) (steps.back (rest ++ left) (more.back left is));
}

-- a piece was read if none was kept, and then bytes that are kept were given
pub gave_on : (contents : Option (List File)) (old start mid new : FileStreamView) (first rest : List ℕ) → HasGiven contents old start first → (HasReadFile contents old → HasReadFile contents start)
    → HasGiven contents start mid [] → (HasReadFile contents start → HasLeft contents mid) → HasGivenKept mid new rest → Gave contents old new (first ++ rest)
gave_on contents old start mid new first rest steps keeps read has passes = record {
  steps = steps_on contents old start new first rest steps (steps_on contents start mid new [] rest read (passes_steps contents mid new rest passes));
  left = λ kept. passes_left contents mid new rest passes (has (keeps kept));
}

-- a stream that keeps a byte that may not be given
pub over_on : (contents : Option (List File)) (old start mid : FileStreamView) (first : List ℕ) → HasGiven contents old start first → (HasReadFile contents old → HasReadFile contents start)
    → HasGiven contents start mid [] → (HasReadFile contents start → HasLeft contents mid) → 0 < length mid.kept → mid.room ≡ 0 → IsOver contents old first
over_on contents old start mid first steps keeps read has some full = record {
  room = omega (arith, steps.room, read.room, full);
  more = λ kept.
      let left = has (keeps kept) in
      let long : length left.0 ≡ length mid.kept + length left.1.behind = ap length left.1.is ∙ length-append mid.kept left.1.behind in
      (left.0, omega (arith, long, some), steps.back left.0 (read.back left.0 left.1));
}

pub end_on : (contents : Option (List File)) (old mid : FileStreamView) (first : List ℕ) → HasGiven contents old mid first → IsLeft contents mid [] → (length first ≤ old.room) × IsLeft contents old first
end_on contents old mid first steps is = (omega (arith, steps.room), subst (IsLeft contents old) (append-nil first) (steps.back [] is))

-- the same in a folder that is seen as at the start
pub over_line : (first here : FolderView) (old start mid : FileStreamView) (line : List ℕ) → here ≡ first → HasGiven first.contents old start line → (HasReadFile first.contents old → HasReadFile first.contents start)
    → HasGiven here.contents start mid [] → (HasReadFile here.contents start → HasLeft here.contents mid) → 0 < length mid.kept → mid.room ≡ 0 → IsOver first.contents old line
over_line first here old start mid line same steps keeps read has some full =
    over_on first.contents old start mid line steps keeps (subst (λ (f : FolderView). HasGiven f.contents start mid []) same read)
    (subst (λ (f : FolderView). HasReadFile f.contents start → HasLeft f.contents mid) same has) some full

pub gave_line : (first here : FolderView) (old start mid new : FileStreamView) (line after end : List ℕ) → here ≡ first → HasGiven first.contents old start line → (HasReadFile first.contents old → HasReadFile first.contents start)
    → HasGiven here.contents start mid [] → (HasReadFile here.contents start → HasLeft here.contents mid) → Gathering mid new line after end → Gave first.contents old new (after ++ end)
gave_line first here old start mid new line after end same steps keeps read has gathering =
    subst (Gave first.contents old new) (sym (append_assoc line gathering.bytes end) ∙ ap (λ l. l ++ end) (sym gathering.line))
    (gave_on first.contents old start mid new line (gathering.bytes ++ end) steps keeps (subst (λ (f : FolderView). HasGiven f.contents start mid []) same read)
    (subst (λ (f : FolderView). HasReadFile f.contents start → HasLeft f.contents mid) same has) gathering.passes)

pub end_line : (first here : FolderView) (old start : FileStreamView) (line : List ℕ) → here ≡ first → HasGiven first.contents old start line → IsLeft here.contents start [] → (length line ≤ old.room) × IsLeft first.contents old line
end_line first here old start line same steps is = end_on first.contents old start line steps (subst (λ (f : FolderView). IsLeft f.contents start []) same is)

-- a line with more bytes
plain_on : (line bytes : List ℕ) → HasNoLineFeed line → HasNoLineFeed bytes → HasNoLineFeed (line ++ bytes)
plain_on line bytes one other = All-append (λ b. is_line_feed b ≡ false) line bytes one other

-- a line with the bytes that came to it
pub plain_after : (mid new : FileStreamView) (line after end : List ℕ) → IsShortLine line → Gathering mid new line after end → HasNoLineFeed after
plain_after mid new line after end short gathering = subst HasNoLineFeed (sym gathering.line) (plain_on line gathering.bytes short.plain gathering.plain)

-- the end of a line, in a folder that is seen as at the start
pub ends_line : (start here : FolderView) (old new : FileStreamView) (line : List ℕ) (end kind : LineEnd) → here ≡ start → end ≡ kind → EndsLine here.contents old new line end → EndsLine start.contents old new line kind
ends_line start here old new line end kind same is ends = subst (λ (f : FolderView). EndsLine f.contents old new line kind) same (subst (EndsLine here.contents old new line) is ends)

-- ---- bytes of a piece

-- going past bytes that are kept
pub passes_front : (name piece : List ℕ) (from to count at room : ℕ) → from + count ≤ to → to ≤ length piece → count ≤ room
    → HasGivenKept (record { name = name; kept = drop from (take to piece); at = at; room = room }) (record { name = name; kept = drop (from + count) (take to piece); at = at; room = room - count }) (take count (drop from (take to piece)))
passes_front name piece from to count at room inside whole most =
    let long : length (take count (drop from (take to piece))) ≡ count = grind (arith, common_steps) in
    record {
      name = refl;
      at = refl;
      room = omega (arith, long);
      kept = sym (take-append-drop count (drop from (take to piece))) ∙ ap (λ l. take count (drop from (take to piece)) ++ l) (drop-drop count from (take to piece));
    }

-- the first of the kept bytes are those of the piece from there on
pub kept_front : (piece : List ℕ) (from to n : ℕ) → from + n ≤ to → take n (drop from piece) ≡ take n (drop from (take to piece))
kept_front piece from to n inside =
    let rest : ℕ = to - from - n in
    let sum : to ≡ from + (n + rest) = omega arith in
    sym (ap (λ t. take n (drop from (take t piece))) sum ∙ ap (take n) (drop-take from (n + rest) piece) ∙ take-take n (n + rest) (drop from piece) (omega arith))

-- the bytes before the line's end came to the line
pub gathers_end : (old new : FileStreamView) (before after hay : List ℕ) (at most : ℕ) → hay ≡ take most old.kept → at < length hay → NoFeed hay at → get_or hay at 0 ≡ 10 → after ≡ before ++ take at hay
    → length before + most ≤ 65 → HasGivenKept old new (take (at + 1) old.kept) → GathersLine old new before after true
gathers_end old new before after hay at most is inside none feed line few passes =
    let long : length hay ≤ most = omega (arith, ap length is, length-take most old.kept) in
    let front : take (at + 1) old.kept ≡ take at hay ++ 10 ∷ [] =
    sym (take-take (at + 1) most old.kept (omega arith)) ∙ ap (take (at + 1)) (sym is) ∙ take_more hay at 0 inside ∙ ap (λ b. take at hay ++ b ∷ []) feed in (
      record { bytes = take at hay; plain = plain_front hay at (omega arith) none; line = line; passes = subst (HasGivenKept old new) front passes },
      omega (arith, ap length line, length-append before (take at hay), length-take at hay),
    )

-- all bytes came to the line
pub gathers_more : (old new : FileStreamView) (before after hay : List ℕ) (most : ℕ) → hay ≡ take most old.kept → NoFeed hay (length hay) → after ≡ before ++ hay → 0 < length hay → length before + most ≤ 65
    → HasGivenKept old new (take most old.kept) → GathersLine old new before after false
gathers_more old new before after hay most is none line some few passes =
    let long : length hay ≤ most = omega (arith, ap length is, length-take most old.kept) in
    let sum : length after ≡ length before + length hay = ap length line ∙ length-append before hay in (
      record { bytes = hay; plain = plain_all hay none; line = line; passes = subst (HasGivenKept old new) (sym is ∙ sym (append-nil hay)) passes },
      omega arith,
      omega arith,
    )

-- how many bytes of a piece there are from a place on
pub length_front : (piece : List ℕ) (from n : ℕ) → from + n ≤ length piece → length (take n (drop from piece)) ≡ n
length_front piece from n inside = grind (arith, common_steps)

-- a stream with bytes that aren't given yet keeps one
pub kept_some : (piece : List ℕ) (from to : ℕ) → from < to → to ≤ length piece → 0 < length (drop from (take to piece))
kept_some piece from to some inside = omega (arith, length-drop from (take to piece), length-take to piece)
