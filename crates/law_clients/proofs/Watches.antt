-- What is kept of an interrogation that is watched, by what the history tells of a client, and how each turn keeps it.
use Rattle.std.proofs.Common.{◌≡◌, ℕ, ◌≤◌, true, false, List, [], ◌∷◌, ◌++◌, map, length, take, drop}
use Rattle.std.proofs.Common.{Option, Some, None, refl, sym, ap, subst, ◌∙◌, append_assoc, arith, inl, inr}
use Rattle.std.specs.Prelude.{not, option_map}
use Rattle.std.specs.List.{AllByRecursion, flat_map}
use Rattle.std.proofs.lemmas.Bool.{cases_Bool}
use Rattle.std.proofs.lemmas.List.{append-nil, map-append, take-append-drop}
use Rattle.std.proofs.Math.Seq.{take-length, drop-length}
use Rattle.gw_model.specs.declared.observation.Observation.{Observation}
use Rattle.gw_model.specs.Values.{is_total}
use Rattle.gw_model.specs.Clocks.{Clocks}
use Rattle.gw_entries.specs.declared.row.Row.{Row}
use Rattle.gw_picture.specs.Log.{picture_of}
use Rattle.gw_picture.proofs.Addresses.{is_single}
use Rattle.gw_picture.proofs.Logs.{shown_by}
use Rattle.iec_command.specs.declared.command.Action.{Action}
use Rattle.iec_command.specs.declared.command.Action.TheVariants as actions
use Rattle.gw_answers.specs.declared.outgoing.AsduAnswer.{AsduAnswer}
use Rattle.gw_answers.specs.declared.outgoing.OwnAsdu.{OwnAsdu}
use Rattle.gw_answers.specs.Interrogations.{is_asked_by, rows_under, answer_to}
use Rattle.gw_answers.specs.Meaning.{Meant}
use Rattle.gw_answers.specs.Outgoing.{command_with, under}
use Rattle.gw_station.specs.declared.sending.Sending.{Sending}
use Rattle.gw_station.specs.declared.sending.Sending.TheVariants as sendings
use Rattle.gw_station.specs.Pump.{together}
use Rattle.gw_station.specs.Sound.{CanSend}
use Rattle.law_clients.specs.Fates.{Element, is_queued, items_of, fates_with_news, fates_with_put_out}
use Rattle.law_clients.specs.Interrogations.{Interrogation, is_interrogation, parts_in, answer_told, interrogation_telling}
use Rattle.law_clients.specs.Line.{since_of, left_of, line_with, MeansFront}
use Rattle.law_clients.specs.Mirror.{observations_in, waiting_in, is_station_interrogation, told_with, NoneDropped}
use Rattle.law_clients.proofs.Settled.{queued, items_of-append}
use Rattle.law_clients.proofs.Known.{IsShown, Knows, asked_shown, asked_last, knows_news, knows_inserted}
use Rattle.law_clients.proofs.Joined.{joins_behind, none_before, joins, came_front, gone_dropped, gone_front}
use Rattle.law_clients.proofs.Waits.{waiting_in-append, waiting_answer, from_answer, waiting_from}
use Rattle.law_clients.proofs.Waits.{waiting_line, from_answer_joined, line_joined, IsPlain, begins_with_part}
use Rattle.law_clients.proofs.Waits.{told_first, apart, part_first, from_part, from_part_of, from_part_next}

-- ---- what the history tells of a client

pub record View : Type 0 where
  -- the log of news, and the fates of the session's
  pub log : List Observation
  pub elements : List Element
  pub asked : Option Interrogation
  pub owed : List AsduAnswer

abbrev pub line_in : View → List Sending
line_in v = line_with v.owed v.asked v.elements

-- ---- what is kept

-- the interrogation that is pending is the watched one, asks some address, and nothing was said of it
pub record IsWatched (asked : Option Interrogation) (since : ℕ) : Type 0 where
  pub q : Interrogation
  pub is : asked ≡ Some q
  pub first : ℕ
  pub more : List ℕ
  pub some : q.asked ≡ first ∷ more
  pub mark : q.since ≡ since
  pub said : q.said ≡ []
  pub kind : is_interrogation q.command.action ≡ true

-- before its first confirmation was put out, where its act asked these addresses
pub record Unheard (rows : List Row) (addresses : List ℕ) (v : View) (since : ℕ) : Type 0 where
  pub watched : IsWatched v.asked since
  pub knows : NoneDropped since v.elements → Knows rows addresses v.log (waiting_in (from_answer v.asked v.elements))

-- from then on: of the news that came before the act none waits
pub record Heard (rows : List Row) (addresses : List ℕ) (v : View) (since : ℕ) (told : List Observation) : Type 0 where
  pub mark : since ≤ since_of v.asked
  pub settled : items_of is_queued (take since v.elements) ≡ []
  pub knows : NoneDropped since v.elements → Knows rows addresses v.log (told ++ waiting_in (line_in v))

abbrev pub IsKept : List Row → List ℕ → View → ℕ → Option (List Observation) → Type 0
IsKept rows addresses v since None = Unheard rows addresses v since
IsKept rows addresses v since (Some told) = Heard rows addresses v since told

-- ---- news come

abbrev pub came : ℕ → List Observation → View → View
came limit xs v = record v { log = v.log ++ xs; elements = fates_with_news limit v.elements xs }

unheard_came : (rows : List Row) (addresses : List ℕ) (limit since : ℕ) (xs : List Observation) (v : View)
    → since_of v.asked ≤ length v.elements
    → Unheard rows addresses v since → Unheard rows addresses (came limit xs v) since
unheard_came rows addresses limit since xs v within kept =
    let es : List Element = v.elements in
    let fs : List Element = fates_with_news limit es xs in
    let mark : since_of v.asked ≡ since = ap since_of kept.watched.is ∙ kept.watched.mark in
    let few : since ≤ length es = omega (arith, mark, within) in
    record {
      watched = kept.watched;
      knows = λ none.
          let joined : drop (since_of v.asked) fs ≡ drop (since_of v.asked) es ++ map queued xs =
          subst (λ (n : ℕ). drop n fs ≡ drop n es ++ map queued xs) (sym mark)
          (joins_behind limit since es xs few none) in
          subst (λ (ys : List Observation). Knows rows addresses (v.log ++ xs) ys)
          (sym (from_answer_joined v.asked es fs xs joined))
          (knows_news rows addresses v.log (waiting_in (from_answer v.asked es)) xs
          (kept.knows (none_before limit since es xs few none)));
    }

heard_came : (rows : List Row) (addresses : List ℕ) (limit since : ℕ) (told xs : List Observation) (v : View)
    → since_of v.asked ≤ length v.elements
    → Heard rows addresses v since told → Heard rows addresses (came limit xs v) since told
heard_came rows addresses limit since told xs v within kept =
    let es : List Element = v.elements in
    let fs : List Element = fates_with_news limit es xs in
    let few : since ≤ length es = omega (arith, kept.mark, within) in
    record {
      mark = kept.mark;
      settled = came_front limit since es xs few kept.settled;
      knows = λ none.
          let joined : fs ≡ es ++ map queued xs = joins limit since es xs few kept.settled none in
          let waits : waiting_in (line_with v.owed v.asked fs) ≡ waiting_in (line_in v) ++ xs =
          ap (λ (gs : List Element). waiting_in (line_with v.owed v.asked gs)) joined
          ∙ line_joined v.owed v.asked es xs within in
          let all : (told ++ waiting_in (line_in v)) ++ xs ≡ told ++ waiting_in (line_with v.owed v.asked fs) =
          append_assoc told (waiting_in (line_in v)) xs ∙ ap (λ (ys : List Observation). told ++ ys) (sym waits) in
          subst (λ (ys : List Observation). Knows rows addresses (v.log ++ xs) ys) all
          (knows_news rows addresses v.log (told ++ waiting_in (line_in v)) xs
          (kept.knows (none_before limit since es xs few none)));
    }

pub kept_came : (rows : List Row) (addresses : List ℕ) (limit since : ℕ) (told : Option (List Observation))
    (xs : List Observation)
    (v : View)
    → since_of v.asked ≤ length v.elements → IsKept rows addresses v since told
    → IsKept rows addresses (came limit xs v) since told
kept_came rows addresses limit since None xs v within kept =
    unheard_came rows addresses limit since xs v within kept
kept_came rows addresses limit since (Some told) xs v within kept =
    heard_came rows addresses limit since told xs v within kept

-- ---- the first of the line is put out

abbrev pub put_out : Meant → List Observation → View → View
put_out meant ys v = record v {
  elements = fates_with_put_out v.elements ys;
  asked = option_map (interrogation_telling meant) v.asked;
  owed = drop 1 v.owed;
}

-- it means the front of the line, and the others wait then
pub record PutsFirst (clocks : Clocks) (v new : View) (meant : Meant) : Type 0 where
  pub means : MeansFront clocks (line_in v) meant
  pub plain : AllByRecursion IsPlain (line_in v)
  pub can : AllByRecursion (CanSend clocks) (line_in v)
  pub line : line_in new ≡ drop (together clocks (line_in v)) (line_in v)

same_since : (meant : Meant) (q : Option Interrogation)
    → since_of (option_map (interrogation_telling meant) q) ≡ since_of q
same_since meant None = refl
same_since meant (Some q) = refl

heard_put_out : (rows : List Row) (addresses : List ℕ) (clocks : Clocks) (since : ℕ) (told : List Observation)
    (meant : Meant) (ys : List Observation) (v : View)
    → PutsFirst clocks v (put_out meant ys v) meant → Heard rows addresses v since told
    → Heard rows addresses (put_out meant ys v) since (told ++ observations_in meant)
heard_put_out rows addresses clocks since told meant ys v puts kept =
    let new : View = put_out meant ys v in
    let rest : List Observation = waiting_in (line_in new) in
    let first : waiting_in (line_in v) ≡ observations_in meant ++ rest =
    told_first clocks (line_in v) meant puts.means puts.plain puts.can
    ∙ ap (λ (l : List Sending). observations_in meant ++ waiting_in l) (sym puts.line) in
    record {
      mark = omega (arith, kept.mark, same_since meant v.asked);
      settled = gone_front since v.elements ys kept.settled;
      knows = λ none.
          subst (λ (xs : List Observation). Knows rows addresses v.log xs)
          (ap (λ (xs : List Observation). told ++ xs) first ∙ sym (append_assoc told (observations_in meant) rest))
          (kept.knows (sym (gone_dropped since v.elements ys) ∙ none));
    }

-- before the confirmation the answer is whole
watched_left : (asked : Option Interrogation) (since : ℕ) (is : IsWatched asked since)
    → left_of asked ≡ answer_told is.q
watched_left asked since is =
    ap left_of is.is ∙ ap (λ (said : List OwnAsdu). drop (length said) (answer_told is.q)) is.said

-- its first part is a confirmation
confirmed_first : (q : Interrogation) (first : ℕ) (more : List ℕ) → q.asked ≡ first ∷ more
    → answer_told q ≡ command_with 7 false (under first q.command) ∷ drop 1 (answer_told q)
confirmed_first q first more some =
    subst (λ (asked : List ℕ). answer_to asked q.command q.rows
    ≡ command_with 7 false (under first q.command) ∷ drop 1 (answer_to asked q.command q.rows)) (sym some) refl

-- what is behind its first part
abbrev behind : Interrogation → List Element → List Sending
behind q es =
    map sendings.Part (drop 1 (answer_told q)) ++ map sendings.News (items_of is_queued (drop q.since es))

watched_from : (asked : Option Interrogation) (es : List Element) (since : ℕ) (is : IsWatched asked since)
    → from_answer asked es ≡ sendings.Part (command_with 7 false (under is.first is.q.command)) ∷ behind is.q es
watched_from asked es since is =
    let news : Option Interrogation → List Sending =
    λ q. map sendings.News (items_of is_queued (drop (since_of q) es)) in
    ap (λ (parts : List OwnAsdu). map sendings.Part parts ++ news asked)
    (watched_left asked since is ∙ confirmed_first is.q is.first is.more is.some)
    ∙ ap (λ (q : Option Interrogation). sendings.Part (command_with 7 false (under is.first is.q.command))
    ∷ (map sendings.Part (drop 1 (answer_told is.q)) ++ news q)) is.is

-- something else than a part
unheard_put_out : (rows : List Row) (addresses : List ℕ) (clocks : Clocks) (since : ℕ) (meant : Meant)
    (ys : List Observation) (v : View)
    → (puts : PutsFirst clocks v (put_out meant ys v) meant) → begins_with_part (line_in v) ≡ false
    → Unheard rows addresses v since
    → IsKept rows addresses (put_out meant ys v) since (told_with meant None)
unheard_put_out rows addresses clocks since meant ys v puts other kept = rw none_said kept_on
  where
    new : View
    new = put_out meant ys v

    none_said : parts_in meant ≡ []
    none_said = apart clocks (line_in v) meant other puts.means puts.plain puts.can

    watched : IsWatched new.asked since
    watched = record {
      q = interrogation_telling meant kept.watched.q;
      is = ap (option_map (interrogation_telling meant)) kept.watched.is;
      first = kept.watched.first;
      more = kept.watched.more;
      some = kept.watched.some;
      mark = kept.watched.mark;
      said = ap (λ (parts : List OwnAsdu). parts ++ parts_in meant) kept.watched.said ∙ none_said;
      kind = kept.watched.kind;
    }

    front : (w : View) (is : IsWatched w.asked since) → from_part (line_in w) ≡ from_answer w.asked w.elements
    front w is =
        let older : List Observation = items_of is_queued (take (since_of w.asked) w.elements) in
        let from = watched_from w.asked w.elements since is in
        ap (λ (l : List Sending). from_part (map sendings.Answer w.owed ++ (map sendings.News older ++ l))) from
        ∙ (from_part_of w.owed older (command_with 7 false (under is.first is.q.command)) (behind is.q w.elements)
        ∙ sym from)

    same : from_answer v.asked v.elements ≡ from_answer new.asked new.elements
    same =
        sym (front v kept.watched)
        ∙ (sym (from_part_next clocks (line_in v) other)
        ∙ (ap from_part (sym puts.line) ∙ front new watched))

    kept_on : Unheard rows addresses new since
    kept_on = record {
      watched = watched;
      knows = λ none.
          subst (λ (l : List Sending). Knows rows addresses v.log (waiting_in l)) same
          (kept.knows (sym (gone_dropped since v.elements ys) ∙ none));
    }

-- its confirmation
confirmed : (rows : List Row) (addresses : List ℕ) (clocks : Clocks) (since : ℕ) (meant : Meant) (ys : List Observation)
    (v : View)
    → begins_with_part (line_in v) ≡ true → MeansFront clocks (line_in v) meant
    → line_in (put_out meant ys v) ≡ drop (together clocks (line_in v)) (line_in v) → Unheard rows addresses v since
    → IsKept rows addresses (put_out meant ys v) since (told_with meant None)
confirmed rows addresses clocks since meant ys v first means moved kept = rw is_said heard
  where
    new : View
    new = put_out meant ys v

    q : Interrogation
    q = kept.watched.q

    begins : OwnAsdu
    begins = command_with 7 false (under kept.watched.first q.command)

    older : List Observation
    older = items_of is_queued (take (since_of v.asked) v.elements)

    from : from_answer v.asked v.elements ≡ sendings.Part begins ∷ behind q v.elements
    from = watched_from v.asked v.elements since kept.watched

    none : (v.owed ≡ []) × (older ≡ [])
    none = part_first v.owed older (from_answer v.asked v.elements) first

    whole : line_in v ≡ sendings.Part begins ∷ behind q v.elements
    whole =
        ap (λ (owed : List AsduAnswer). map sendings.Answer owed
        ++ (map sendings.News older ++ from_answer v.asked v.elements)) none.0
        ∙ (ap (λ (xs : List Observation). map sendings.News xs ++ from_answer v.asked v.elements) none.1 ∙ from)

    is_said : parts_in meant ≡ begins ∷ []
    is_said = ap parts_in (subst (λ (l : List Sending). MeansFront clocks l meant) whole means)
        ∙ rw kept.watched.kind refl

    left : drop (together clocks (line_in v)) (line_in v) ≡ behind q v.elements
    left = ap (λ (l : List Sending). drop (together clocks l) l) whole

    mark : since_of v.asked ≡ since
    mark = ap since_of kept.watched.is ∙ kept.watched.mark

    heard : Heard rows addresses new since []
    heard = record {
      mark = omega (arith, mark, same_since meant v.asked);
      settled = gone_front since v.elements ys (subst (λ (n : ℕ). items_of is_queued (take n v.elements) ≡ []) mark
          none.1);
      knows = λ kept_all.
          subst (λ (xs : List Observation). Knows rows addresses v.log xs)
          (ap waiting_in from ∙ sym (ap waiting_in (moved ∙ left)))
          (kept.knows (sym (gone_dropped since v.elements ys) ∙ kept_all));
    }

pub kept_put_out : (rows : List Row) (addresses : List ℕ) (clocks : Clocks) (since : ℕ) (told : Option (List Observation))
    (meant : Meant) (ys : List Observation) (v : View)
    → PutsFirst clocks v (put_out meant ys v) meant → IsKept rows addresses v since told
    → IsKept rows addresses (put_out meant ys v) since (told_with meant told)
kept_put_out rows addresses clocks since (Some told) meant ys v puts kept =
    heard_put_out rows addresses clocks since told meant ys v puts kept
kept_put_out rows addresses clocks since None meant ys v puts kept =
    elim (cases_Bool (begins_with_part (line_in v))) [
      | inl part ↦ confirmed rows addresses clocks since meant ys v part puts.means puts.line kept
      | inr other ↦ unheard_put_out rows addresses clocks since meant ys v puts other kept
    ]

-- ---- an ASDU is taken

-- its answers join the others
abbrev pub taken : List AsduAnswer → View → View
taken more v = record v { owed = v.owed ++ more }

-- an interrogation begins by it
abbrev pub begun : Interrogation → View → View
begun q v = record v { asked = Some q }

pub kept_taken : (rows : List Row) (addresses : List ℕ) (since : ℕ) (told : Option (List Observation))
    (more : List AsduAnswer) (v : View)
    → AllByRecursion (IsShown rows v.log) (waiting_in (map sendings.Answer more)) → IsKept rows addresses v since told
    → IsKept rows addresses (taken more v) since told
kept_taken rows addresses since None more v shown kept = record { watched = kept.watched; knows = kept.knows }
kept_taken rows addresses since (Some told) more v shown kept = record {
  mark = kept.mark;
  settled = kept.settled;
  knows = λ none.
      subst (λ (xs : List Observation). Knows rows addresses v.log xs) after
      (knows_inserted rows addresses v.log (told ++ answers) news rest shown
      (subst (λ (xs : List Observation). Knows rows addresses v.log xs) before (kept.knows none)));
}
  where
    answers : List Observation
    answers = waiting_in (map sendings.Answer v.owed)

    news : List Observation
    news = waiting_in (map sendings.Answer more)

    rest : List Observation
    rest = items_of is_queued (take (since_of v.asked) v.elements) ++ waiting_in (from_answer v.asked v.elements)

    before : told ++ waiting_in (line_in v) ≡ (told ++ answers) ++ rest
    before = ap (λ (xs : List Observation). told ++ xs) (waiting_line v.owed v.asked v.elements)
        ∙ sym (append_assoc told answers rest)

    joined : waiting_in (map sendings.Answer (v.owed ++ more)) ≡ answers ++ news
    joined =
        ap waiting_in (map-append sendings.Answer v.owed more)
        ∙ waiting_in-append (map sendings.Answer v.owed) (map sendings.Answer more)

    after : (told ++ answers) ++ (news ++ rest) ≡ told ++ waiting_in (line_in (taken more v))
    after =
        append_assoc told answers (news ++ rest)
        ∙ ap (λ (xs : List Observation). told ++ xs)
        (sym (append_assoc answers news rest)
        ∙ (ap (λ (xs : List Observation). xs ++ rest) (sym joined)
        ∙ sym (waiting_line (v.owed ++ more) v.asked v.elements)))

-- an interrogation of some address that begins with the picture of now, when so many news came
pub record IsNew (rows : List Row) (v : View) (q : Interrogation) : Type 0 where
  pub first : ℕ
  pub more : List ℕ
  pub some : q.asked ≡ first ∷ more
  pub since : q.since ≡ length v.elements
  pub rows_are : q.rows ≡ picture_of rows v.log
  pub said : q.said ≡ []

-- what it asks of the picture
abbrev asked_of : List Row → View → Interrogation → List Observation
asked_of rows v q = flat_map (rows_under q.command.action (picture_of rows v.log)) q.asked

-- what waits of its answer, and behind it
new_left : (rows : List Row) (v : View) (q : Interrogation) → IsNew rows v q
    → waiting_in (map sendings.Part (left_of (Some q))) ≡ asked_of rows v q
new_left rows v q is =
    ap (λ (said : List OwnAsdu). waiting_in (map sendings.Part (drop (length said) (answer_told q)))) is.said
    ∙ (waiting_answer q.asked q.command q.rows
    ∙ ap (λ (picture : List Observation). flat_map (rows_under q.command.action picture) q.asked) is.rows_are)

new_from : (rows : List Row) (v : View) (q : Interrogation) → IsNew rows v q
    → waiting_in (from_answer (Some q) v.elements) ≡ asked_of rows v q ++ []
new_from rows v q is =
    waiting_from (Some q) v.elements
    ∙ (ap (λ (xs : List Observation). xs ++ items_of is_queued (drop q.since v.elements)) (new_left rows v q is)
    ∙ ap (λ (es : List Element). asked_of rows v q ++ items_of is_queued es)
    (ap (λ (n : ℕ). drop n v.elements) is.since ∙ drop-length v.elements))

asks_all : (action : Action) (x : Observation) → is_station_interrogation action ≡ true → is_total x.value ≡ false
    → is_asked_by action x ≡ true
asks_all (actions.Interrogation qualifier) x station whole = ap not whole
asks_all (actions.CounterInterrogation qualifier) x station whole = absurd cc
asks_all (actions.Single c) x station whole = absurd cc
asks_all (actions.Double c) x station whole = absurd cc
asks_all (actions.Setpoint c) x station whole = absurd cc
asks_all actions.Read x station whole = absurd cc

station_kind : (action : Action) → is_station_interrogation action ≡ true → is_interrogation action ≡ true
station_kind (actions.Interrogation qualifier) station = refl
station_kind (actions.CounterInterrogation qualifier) station = absurd cc
station_kind (actions.Single c) station = absurd cc
station_kind (actions.Double c) station = absurd cc
station_kind (actions.Setpoint c) station = absurd cc
station_kind actions.Read station = absurd cc

-- the watched one begins
pub unheard_begun : (rows : List Row) (v : View) (q : Interrogation) → is_single rows ≡ true → IsNew rows v q
    → is_station_interrogation q.command.action ≡ true → Unheard rows q.asked (begun q v) q.since
unheard_begun rows v q single is station = record {
  watched = record {
    q = q;
    is = refl;
    first = is.first;
    more = is.more;
    some = is.some;
    mark = refl;
    said = is.said;
    kind = station_kind q.command.action station;
  };
  knows = λ none.
      subst (λ (xs : List Observation). Knows rows q.asked v.log xs)
      (sym (append-nil (asked_of rows v q)) ∙ sym (new_from rows v q is))
      (λ n row get among whole.
      asked_last q.asked q.command.action rows v.log n row None single get among
      (asks_all q.command.action (shown_by v.log row) station whole));
}

-- the news that wait, where nothing is left of an answer
whole_line : (v : View) → left_of v.asked ≡ []
    → waiting_in (line_in v) ≡ waiting_in (map sendings.Answer v.owed) ++ items_of is_queued v.elements
whole_line v none =
    let s : ℕ = since_of v.asked in
    let answers : List Observation = waiting_in (map sendings.Answer v.owed) in
    let older : List Observation = items_of is_queued (take s v.elements) in
    waiting_line v.owed v.asked v.elements
    ∙ (ap (λ (xs : List Observation). answers ++ (older ++ xs)) (waiting_from v.asked v.elements)
    ∙ (ap (λ (parts : List OwnAsdu).
    answers ++ (older ++ (waiting_in (map sendings.Part parts) ++ items_of is_queued (drop s v.elements)))) none
    ∙ ap (λ (xs : List Observation). answers ++ xs)
    (sym (items_of-append is_queued (take s v.elements) (drop s v.elements))
    ∙ ap (items_of is_queued) (take-append-drop s v.elements))))

-- another begins
pub heard_begun : (rows : List Row) (addresses : List ℕ) (since : ℕ) (told : List Observation) (v : View)
    (q : Interrogation)
    → is_single rows ≡ true
    → since_of v.asked ≤ length v.elements → left_of v.asked ≡ [] → IsNew rows v q → Heard rows addresses v since told
    → Heard rows addresses (begun q v) since told
heard_begun rows addresses since told v q single within left is kept = record {
  mark = omega (arith, kept.mark, within, is.since);
  settled = kept.settled;
  knows = λ none.
      subst (λ (xs : List Observation). Knows rows addresses v.log xs) after
      (knows_inserted rows addresses v.log (told ++ (answers ++ news)) asked []
      (asked_shown q.asked q.command.action rows v.log single)
      (subst (λ (xs : List Observation). Knows rows addresses v.log xs) before (kept.knows none)));
}
  where
    answers : List Observation
    answers = waiting_in (map sendings.Answer v.owed)

    news : List Observation
    news = items_of is_queued v.elements

    asked : List Observation
    asked = asked_of rows v q

    before : told ++ waiting_in (line_in v) ≡ (told ++ (answers ++ news)) ++ []
    before = ap (λ (xs : List Observation). told ++ xs) (whole_line v left)
        ∙ sym (append-nil (told ++ (answers ++ news)))

    front : items_of is_queued (take q.since v.elements) ≡ news
    front = ap (items_of is_queued) (ap (λ (n : ℕ). take n v.elements) is.since ∙ take-length v.elements)

    line : waiting_in (line_in (begun q v)) ≡ answers ++ (news ++ (asked ++ []))
    line =
        waiting_line v.owed (Some q) v.elements
        ∙ (ap (λ (xs : List Observation). answers ++ (xs ++ waiting_in (from_answer (Some q) v.elements))) front
        ∙ ap (λ (xs : List Observation). answers ++ (news ++ xs)) (new_from rows v q is))

    after : (told ++ (answers ++ news)) ++ (asked ++ []) ≡ told ++ waiting_in (line_in (begun q v))
    after =
        append_assoc told (answers ++ news) (asked ++ [])
        ∙ ap (λ (xs : List Observation). told ++ xs) (append_assoc answers news (asked ++ []) ∙ sym line)
