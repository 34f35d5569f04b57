-- Answering an input read by read.
use Rattle.std.proofs.Common.{◌≡◌, ◌≢◌, ℕ, ◌+◌, Bool, true, false, List, [], ◌∷◌, ◌++◌}
use Rattle.std.proofs.Common.{take, Option, Some, None, Result, Ok, Err, IfOk, IfSome, OnSome}
use Rattle.std.proofs.Common.{refl, sym, ap, subst, ◌∙◌, append_assoc, append-nil, take_all, arith}
use Rattle.std.proofs.KnownBytes.{Appends-nil, Appends-trans}
use Rattle.std.proofs.lemmas.List.Elements.{All-nil, All-append}
use Rattle.std.specs.Io.KnownBytes.{Appends, IsAtEnd}
use Rattle.cmd_text.specs.Front.{Front, first_front, with_more}
use Rattle.cmd_text.specs.Lines.{Answering, AreAnswered, FrontDecides, IsAnswered, lines_of}
use Rattle.cmd_text.specs.Reading.{Between, Brings, IsAnsweredUpTo, IsInLine}
use Rattle.cmd_text.specs.declared.reading.Stop.{Stop}
use Rattle.cmd_text.specs.declared.reading.Piece.{Piece}
use Rattle.cmd_text.specs.declared.reading.Piece.TheVariants.{Nothing, Part, Line, End}
use Rattle.cmd_text.proofs.FrontLaws.{take-kept}
use Rattle.cmd_text.proofs.InputLines.{lines_of-line, lines_of-end}

none_in_line : IsInLine []
none_in_line = All-nil (λ x. x ≢ 10)

-- a read leaves how much is kept, and the line's number
pub front_stays : (piece : Piece) (old new : Option (List ℕ)) (line longer : Front) → Brings piece old new line longer
    → (longer.most ≡ line.most) × (longer.number ≡ line.number)
front_stays Nothing old new line longer brings =
    (ap (λ (l : Front). l.most) brings.1, ap (λ (l : Front). l.number) brings.1)
front_stays Part old new line longer brings =
    (ap (λ (l : Front). l.most) brings.2.1, ap (λ (l : Front). l.number) brings.2.1)
front_stays Line old new line longer brings =
    (ap (λ (l : Front). l.most) brings.2.3, ap (λ (l : Front). l.number) brings.2.3)
front_stays End old new line longer brings =
    (ap (λ (l : Front). l.most) brings.2, ap (λ (l : Front). l.number) brings.2)

-- what holds anyway holds where it goes on
pub if_ok : (P : Type 0) (result : Result Bool Stop) → P → IfOk result (λ goes_on. goes_on ≡ true → P)
if_ok P (Ok goes_on) holds = λ on. holds
if_ok P (Err stop) holds = tt

module _ {S : Type 0} (R : Answering S) (before : S) where
  -- an input is answered up to a line
  abbrev pub UpTo : S → Front → Option (List ℕ) → Option (List ℕ) → Option (List ℕ) → Option (List ℕ) → Type 0
  UpTo now line input rest old new =
      Between input rest (λ whole left. IsAnsweredUpTo R before now line whole left old new)

  pub at_first : (most : ℕ) (input old : Option (List ℕ)) → UpTo before (first_front most) input input old old
  at_first most None old = tt
  at_first most (Some whole) old = record {
    text = [];
    written = Appends-nil old;
    begun = [];
    in_line = none_in_line;
    kept = sym (take_all most [] (omega arith));
    further = λ goes_on later last answers. answers;
  }

  -- ---- reads that end no line

  module _ (now : S) (line longer : Front) (old new : Option (List ℕ)) where
    pub after_nothing : (input middle rest : Option (List ℕ)) → UpTo now line input middle old new
        → Brings Nothing middle rest line longer → UpTo now longer input rest old new
    after_nothing None middle rest so_far brings = tt
    after_nothing (Some i) None rest so_far brings = absurd so_far
    after_nothing (Some i) (Some m) None so_far brings = absurd brings.0
    after_nothing (Some i) (Some m) (Some r) so_far brings =
        let same = subst (λ (l : Front). IsAnsweredUpTo R before now l i m old new) (sym brings.1) so_far in
        subst (λ (left : List ℕ). IsAnsweredUpTo R before now longer i left old new) (sym brings.0) same

    -- the line goes on
    goes_on_with : (i m r octets : List ℕ) → IsAnsweredUpTo R before now line i m old new → m ≡ octets ++ r
        → IsInLine octets → IsAnsweredUpTo R before now (with_more line octets) i r old new
    goes_on_with i m r octets so_far split none = record {
      text = so_far.text;
      written = so_far.written;
      begun = so_far.begun ++ octets;
      in_line = All-append (λ x. x ≢ 10) so_far.begun octets so_far.in_line none;
      kept = ap (λ (l : List ℕ). take line.most (l ++ octets)) so_far.kept ∙ take-kept line.most so_far.begun octets;
      further = λ goes_on later last answers.
          let joined : (so_far.begun ++ octets) ++ r ≡ so_far.begun ++ m =
          append_assoc so_far.begun octets r ∙ ap (λ (l : List ℕ). so_far.begun ++ l) (sym split) in
          so_far.further goes_on later last
          (subst (λ (l : List ℕ). AreAnswered R line.number now (lines_of l) goes_on later last) joined answers);
    }

    pub after_part : (input middle rest : Option (List ℕ)) → UpTo now line input middle old new
        → Brings Part middle rest line longer → UpTo now longer input rest old new
    after_part None middle rest so_far brings = tt
    after_part (Some i) None rest so_far brings = absurd so_far
    after_part (Some i) (Some m) None so_far brings = absurd brings.1
    after_part (Some i) (Some m) (Some r) so_far brings =
        subst (λ (l : Front). IsAnsweredUpTo R before now l i r old new) (sym brings.2.1)
        (goes_on_with i m r brings.0 so_far brings.1 brings.2.0)

  -- ---- lines that are answered

  module _ (kept : ℕ) (decides : FrontDecides R kept) (now then : S) (line longer : Front) (most : line.most ≡ kept)
    where
      front_decides : FrontDecides R line.most
      front_decides = subst (FrontDecides R) (sym most) decides

      -- a line was answered by what was kept of it
      abbrev pub Told : Bool → List ℕ → Type 0
      Told goes_on text = R now longer.number longer.octets goes_on text then

      pub told : (number : ℕ) (octets : List ℕ) (met goes_on : Bool) (text : List ℕ) → number ≡ longer.number
          → octets ≡ longer.octets → met ≡ goes_on → R now number octets met text then → Told goes_on text
      told number octets met goes_on text same_number same_octets same answered =
          let one = subst (λ (n : ℕ). R now n octets met text then) same_number answered in
          let two = subst (λ (o : List ℕ). R now longer.number o met text then) same_octets one in
          subst (λ (b : Bool). R now longer.number longer.octets b text then) same two

      -- the answer of a line that was kept is that of the line
      whole_answered : (begun front : List ℕ) (goes_on : Bool) (text : List ℕ) → line.octets ≡ take line.most begun
          → longer ≡ with_more line front → Told goes_on text
          → R now line.number (begun ++ front) goes_on text then
      whole_answered begun front goes_on text cut_off is answered =
          let as_kept = subst (λ (l : Front). R now l.number l.octets goes_on text then) is answered in
          let cut = ap (λ (l : List ℕ). take line.most (l ++ front)) cut_off ∙ take-kept line.most begun front in
          let of_front = subst (λ (l : List ℕ). R now line.number l goes_on text then) cut as_kept in
          front_decides now then line.number (begun ++ front) goes_on text of_front

      -- the lines from one that was ended on
      lines_from : (m r begun octets front : List ℕ) → IsInLine begun → m ≡ octets ++ r → octets ≡ front ++ 10 ∷ []
          → IsInLine front → lines_of (begun ++ m) ≡ (begun ++ front) ∷ lines_of r
      lines_from m r begun octets front in_line split ended none =
          let ended_line : begun ++ (front ++ 10 ∷ []) ≡ (begun ++ front) ++ 10 ∷ [] =
          sym (append_assoc begun front (10 ∷ [])) in
          let as_line : begun ++ m ≡ ((begun ++ front) ++ 10 ∷ []) ++ r =
          ap (λ (l : List ℕ). begun ++ l) (split ∙ ap (λ (l : List ℕ). l ++ r) ended)
          ∙ sym (append_assoc begun (front ++ 10 ∷ []) r) ∙ ap (λ (l : List ℕ). l ++ r) ended_line in
          ap lines_of as_line
          ∙ lines_of-line (begun ++ front) r (All-append (λ x. x ≢ 10) begun front in_line none)

      -- a line was answered, and it goes on with the next
      pub after_line : (input middle rest old between new : Option (List ℕ)) (text : List ℕ)
          → UpTo now line input middle old between → Brings Line middle rest line longer → Appends between new text
          → Told true text
          → UpTo then (record longer { number = longer.number + 1; octets = [] }) input rest old new
      after_line None middle rest old between new text so_far brings written answered = tt
      after_line (Some i) None rest old between new text so_far brings written answered = absurd so_far
      after_line (Some i) (Some m) None old between new text so_far brings written answered = absurd brings.1
      after_line (Some i) (Some m) (Some r) old between new text so_far brings written answered =
          let front = brings.2.0 in
          let whole = whole_answered so_far.begun front true text so_far.kept brings.2.3 answered in
          let lines = lines_from m r so_far.begun brings.0 front so_far.in_line brings.1 brings.2.1 brings.2.2 in
          let same_number : longer.number ≡ line.number = ap (λ (l : Front). l.number) brings.2.3 in
          record {
            text = so_far.text ++ text;
            written = Appends-trans old between new so_far.text text so_far.written written;
            begun = [];
            in_line = none_in_line;
            kept = sym (take_all longer.most [] (omega arith));
            further = λ goes_on later last answers.
                let next = subst
                (λ (n : ℕ). AreAnswered R (n + 1) then (lines_of r) goes_on later last) same_number answers in
                let all = (so_far.begun ++ front) ∷ lines_of r in
                let from_line : AreAnswered R line.number now all goes_on (text ++ later) last =
                (then, true, text, later, refl, whole, next) in
                let joined = subst
                (λ (ls : List (List ℕ)). AreAnswered R line.number now ls goes_on (text ++ later) last)
                (sym lines) from_line in
                subst (λ (t : List ℕ). AreAnswered R 1 before (lines_of i) goes_on t last)
                (sym (append_assoc so_far.text text later))
                (so_far.further goes_on (text ++ later) last joined);
          }

      -- the last lines were answered with this text
      all_answered : (i m : List ℕ) (old between new : Option (List ℕ)) (goes_on : Bool) (text : List ℕ)
          → (so_far : IsAnsweredUpTo R before now line i m old between) → Appends between new text
          → AreAnswered R line.number now (lines_of (so_far.begun ++ m)) goes_on text then
          → IsAnswered R before i goes_on old new then
      all_answered i m old between new goes_on text so_far written answers = (
        so_far.text ++ text,
        Appends-trans old between new so_far.text text so_far.written written,
        so_far.further goes_on text then answers,
      )

      -- a line was answered, and it does not go on
      pub stopped : (input middle rest old between new : Option (List ℕ)) (text : List ℕ)
          → UpTo now line input middle old between → Brings Line middle rest line longer → Appends between new text
          → Told false text
          → IfSome input (λ whole. IsAnswered R before whole false old new then)
      stopped None middle rest old between new text so_far brings written answered = tt
      stopped (Some i) None rest old between new text so_far brings written answered = absurd so_far
      stopped (Some i) (Some m) None old between new text so_far brings written answered = absurd brings.1
      stopped (Some i) (Some m) (Some r) old between new text so_far brings written answered =
          let front = brings.2.0 in
          let whole = whole_answered so_far.begun front false text so_far.kept brings.2.3 answered in
          let lines = lines_from m r so_far.begun brings.0 front so_far.in_line brings.1 brings.2.1 brings.2.2 in
          let from_line : AreAnswered R line.number now ((so_far.begun ++ front) ∷ lines_of r) false text then =
          (then, false, text, [], sym (append-nil text), whole, (refl, refl, refl)) in
          all_answered i m old between new false text so_far written
          (subst (λ (ls : List (List ℕ)). AreAnswered R line.number now ls false text then) (sym lines) from_line)

      -- the last line before the end of the input
      last_line : (number : ℕ) (octets : List ℕ) (goes_on : Bool) (text : List ℕ)
          → R now number octets goes_on text then
          → AreAnswered R number now (octets ∷ []) goes_on text then
      last_line number octets true text answered =
          (then, true, text, [], sym (append-nil text), answered, (refl, refl, refl))
      last_line number octets false text answered =
          (then, false, text, [], sym (append-nil text), answered, (refl, refl, refl))

      -- the line that the end of the input ends was answered
      pub ended : (input middle rest old between new : Option (List ℕ)) (goes_on : Bool) (text : List ℕ)
          → UpTo now line input middle old between → Brings End middle rest line longer → Appends between new text
          → Told goes_on text
          → IfSome input (λ whole. IsAnswered R before whole goes_on old new then)
      ended None middle rest old between new goes_on text so_far brings written answered = tt
      ended (Some i) None rest old between new goes_on text so_far brings written answered = absurd so_far
      ended (Some i) (Some m) rest old between new goes_on text so_far brings written answered =
          let as_line = subst (λ (l : Front). R now l.number l.octets goes_on text then) brings.2 answered in
          let of_front = subst (λ (l : List ℕ). R now line.number l goes_on text then) so_far.kept as_line in
          let whole = front_decides now then line.number so_far.begun goes_on text of_front in
          let no_more : so_far.begun ++ m ≡ so_far.begun ++ [] = ap (λ (l : List ℕ). so_far.begun ++ l) brings.0 in
          let lines = ap lines_of no_more ∙ lines_of-end so_far.begun so_far.in_line in
          all_answered i m old between new goes_on text so_far written
          (subst (λ (ls : List (List ℕ)). AreAnswered R line.number now ls goes_on text then) (sym lines)
          (last_line line.number so_far.begun goes_on text whole))

      -- the same of a call that answers the line
      pub answered_at_end : (number : ℕ) (octets : List ℕ) (result : Result Bool Stop)
          (input middle rest old between new : Option (List ℕ))
          → UpTo now line input middle old between → Brings End middle rest line longer → number ≡ longer.number
          → octets ≡ longer.octets
          → IfOk result (λ goes_on. (text : List ℕ) × Appends between new text × R now number octets goes_on text then)
          → IfOk result (λ goes_on. IfSome input (λ whole. IsAnswered R before whole goes_on old new then))
      answered_at_end number octets (Ok goes_on) input middle rest old between new so_far brings
          same_number same_octets answered =
          ended input middle rest old between new goes_on answered.0 so_far brings answered.1
          (told number octets goes_on goes_on answered.0 same_number same_octets refl answered.2)
      answered_at_end number octets (Err stop) input middle rest old between new so_far brings
          same_number same_octets answered = tt

  module _ (now : S) (line longer : Front) where
    -- at the end of the input the reader stands at its end
    pub at_end : (input middle rest old between : Option (List ℕ)) → UpTo now line input middle old between
        → Brings End middle rest line longer → OnSome input (IsAtEnd rest)
    at_end None middle rest old between so_far brings = tt
    at_end (Some i) None rest old between so_far brings = absurd so_far
    at_end (Some i) (Some m) None old between so_far brings = absurd brings.1
    at_end (Some i) (Some m) (Some r) old between so_far brings = brings.1 ∙ brings.0
