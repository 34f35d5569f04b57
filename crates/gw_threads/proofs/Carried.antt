-- What a pump puts out tells of fit observations.
use Rattle.std.proofs.Common.{◌≡◌, ℕ, zero, suc, ◌%◌, ◌≤◌, false, List, [], ◌∷◌, take}
use Rattle.std.proofs.Common.{Option, Some, None, Ok, refl, sym, ap, subst, ◌∙◌, arith}
use Rattle.std.specs.Prelude.{slice_get, option_map, IfSome, IsSomeAnd}
use Rattle.std.specs.List.{AllByRecursion}
use Rattle.std.proofs.lemmas.Bool.{true≢false, eq-eqb, ne_eqb}
use Rattle.gw_model.specs.declared.observation.Observation.{Observation}
use Rattle.gw_model.specs.Fit.{IsFit}
use Rattle.gw_model.specs.Clocks.{Clocks}
use Rattle.iec_apci.specs.declared.buffer.ApduBuf.{ApduBuf}
use Rattle.iec_apci.specs.Buffer.{buffer_of}
use Rattle.iec_asdu.specs.Packing.{taken_of}
use Rattle.gw_answers.specs.declared.outgoing.AsduAnswer.{AsduAnswer}
use Rattle.gw_answers.specs.declared.outgoing.AsduAnswer.TheVariants.{Returned, Made}
use Rattle.gw_answers.specs.declared.outgoing.OwnAsdu.{OwnAsdu}
use Rattle.gw_answers.specs.declared.outgoing.OwnAsdu.TheVariants as outgoing
use Rattle.gw_answers.specs.Octets.{answer_octets, octets_in, outgoing_octets, packed_octets}
use Rattle.gw_answers.specs.Meaning.{Meant, Tells, Commands, Unread, meaning_of, meant_outgoing}
use Rattle.gw_answers.specs.Meaning.{IsSendable, Means, CanSendAnswer, CanSendOutgoing}
use Rattle.gw_answers.proofs.Meant.{answer_means, outgoing_means, packed_mean, refused_with}
use Rattle.gw_station.specs.declared.sending.Sending.{Sending}
use Rattle.gw_station.specs.declared.sending.Sending.TheVariants as sendings
use Rattle.gw_station.specs.Client.{Client, is_up}
use Rattle.gw_station.specs.Pump.{line, news_front, rows_front, part_octets, IsNext, content_of, given, offered}
use Rattle.gw_station.specs.Sound.{CanSend, IsSoundClient}
use Rattle.gw_station.proofs.All.{all-take}
use Rattle.gw_station.proofs.Front.{news_sendable, rows_sendable}
use Rattle.gw_station.proofs.Line.{offered_next}
use Rattle.gw_station.proofs.Sends.{line_can, offered_can, content_fits}
use Rattle.gw_steps.specs.declared.step.Step.{Step}
use Rattle.gw_steps.specs.declared.step.Step.TheVariants.{Pump}
use Rattle.gw_steps.specs.declared.step.Reply.{Reply}
use Rattle.gw_steps.specs.declared.step.Reply.TheVariants.{Apdu}
use Rattle.gw_steps.specs.declared.step.StepFault.TheVariants.{NoClient}
use Rattle.gw_steps.specs.Said.{ApduMeaning, said_by}
use Rattle.gw_steps.specs.State.{State}
use Rattle.gw_steps.specs.Steps.{can_be_counted, client_reply, fault_of, latest, needs, reply_giving, reply_to}
use Rattle.gw_steps.proofs.Inversion.{answered, who_is_up}
use Rattle.gw_steps.proofs.Saying.{said-content}
use Rattle.gw_map.specs.Settings.{Setup, station_clocks}
use Rattle.gw_threads.specs.Carries.{is_reporting, TellsFit, SaysFit, CarriesFit}
use Rattle.run_shared.specs.Pumping.{IsPumped}

-- ---- what is meant

-- what comes back as unknown reports nothing
unknown_apart : (cause : ℕ) → 44 ≤ cause → is_reporting cause ≡ false
unknown_apart cause high =
    rw (
      ne_eqb cause 3 (λ e. omega (arith, e, high)),
      ne_eqb cause 5 (λ e. omega (arith, e, high)),
      ne_eqb cause 20 (λ e. omega (arith, e, high)),
      ne_eqb cause 37 (λ e. omega (arith, e, high)),
    ) refl

outgoing_tells : (clocks : Clocks) (x : OwnAsdu) (meant : Meant) → CanSendOutgoing clocks x
    → meant ≡ meant_outgoing clocks x → TellsFit clocks meant
outgoing_tells clocks (outgoing.Command c) meant can means = subst (TellsFit clocks) (sym means) tt
outgoing_tells clocks (outgoing.Observation cause originator x) meant can means =
    subst (TellsFit clocks) (sym means) (λ reports. (can.fit, tt))

answer_tells : (clocks : Clocks) (answer : AsduAnswer) (meant : Meant) → CanSendAnswer clocks answer
    → Means clocks answer meant → TellsFit clocks meant
answer_tells clocks (Returned asdu cause) (Tells told) can means =
    let refused = refused_with clocks cause (octets_in asdu) (Tells told) can.0 means in
    λ reports. absurd (true≢false (sym reports ∙ unknown_apart (told.cause % 64) (omega (arith, refused.0, can.1))))
answer_tells clocks (Returned asdu cause) (Commands command) can means = tt
answer_tells clocks (Returned asdu cause) (Unread octets) can means = tt
answer_tells clocks (Made (outgoing.Command c)) meant can means =
    outgoing_tells clocks (outgoing.Command c) meant can means
answer_tells clocks (Made (outgoing.Observation cause originator x)) meant can means =
    outgoing_tells clocks (outgoing.Observation cause originator x) meant can.1 means

-- ---- what is put out

outgoing_says : (clocks : Clocks) (x : OwnAsdu) → CanSendOutgoing clocks x
    → TellsFit clocks (meaning_of clocks (outgoing_octets clocks x))
outgoing_says clocks x can =
    outgoing_tells clocks x (meaning_of clocks (outgoing_octets clocks x)) can (outgoing_means clocks x can)

-- as many observations as one ASDU carries
all_fit : (clocks : Clocks) (xs : List Observation) → AllByRecursion (IsSendable clocks) xs
    → AllByRecursion (IsFit clocks) xs
all_fit clocks [] all = tt
all_fit clocks (x ∷ xs) all = (all.0.fit, all_fit clocks xs all.1)

packed_says : (clocks : Clocks) (cause originator : ℕ) (x : Observation) (xs : List Observation)
    → AllByRecursion (IsSendable clocks) (x ∷ xs)
    → TellsFit clocks (meaning_of clocks (packed_octets clocks cause originator (x ∷ xs)))
packed_says clocks cause originator x xs all =
    let n : ℕ = taken_of clocks (x ∷ xs) in
    let can = all-take (IsSendable clocks) n (x ∷ xs) all in
    subst (TellsFit clocks) (sym (packed_mean clocks cause originator x xs can))
    (λ reports. all_fit clocks (take n (x ∷ xs)) can)

-- those at the front of a line, which aren't none
news_say : (clocks : Clocks) (x : Observation) (l : List Sending) → AllByRecursion (CanSend clocks) l
    → slice_get l 0 ≡ Some (sendings.News x)
    → TellsFit clocks (meaning_of clocks (packed_octets clocks 3 0 (news_front l)))
news_say clocks x [] all e = absurd cc
news_say clocks x (sendings.News y ∷ l) all e =
    packed_says clocks 3 0 y (news_front l) (all.0, news_sendable clocks l all.1)
news_say clocks x (sendings.Answer answer ∷ l) all e = absurd cc
news_say clocks x (sendings.Part part ∷ l) all e = absurd cc
news_say clocks x (sendings.Confirm signal ∷ l) all e = absurd cc
news_say clocks x (sendings.Test ∷ l) all e = absurd cc
news_say clocks x (sendings.SFormat ∷ l) all e = absurd cc

part_read : OwnAsdu → Option Sending → OwnAsdu
part_read d (Some (sendings.Part part)) = part
part_read d _ = d

rows_say : (clocks : Clocks) (part : OwnAsdu) (l : List Sending) → AllByRecursion (CanSend clocks) l
    → slice_get l 0 ≡ Some (sendings.Part part)
    → TellsFit clocks (meaning_of clocks (part_octets clocks l part))
unfolding part_read
rows_say clocks part [] all e = absurd cc
rows_say clocks part (sendings.Part (outgoing.Command command) ∷ l) all e =
    let line : List Sending = sendings.Part (outgoing.Command command) ∷ l in
    subst (λ (p : OwnAsdu). TellsFit clocks (meaning_of clocks (part_octets clocks line p)))
    (ap (part_read part) e) (outgoing_says clocks (outgoing.Command command) all.0)
rows_say clocks part (sendings.Part (outgoing.Observation cause originator x) ∷ l) all e =
    let line : List Sending = sendings.Part (outgoing.Observation cause originator x) ∷ l in
    subst (λ (p : OwnAsdu). TellsFit clocks (meaning_of clocks (part_octets clocks line p)))
    (ap (part_read part) e)
    (subst (λ (xs : List Observation). TellsFit clocks (meaning_of clocks (packed_octets clocks cause originator xs)))
    (sym front) (packed_says clocks cause originator x (rows_front cause originator l)
    (all.0, rows_sendable clocks cause originator l all.1)))
  where
    front : rows_front cause originator (sendings.Part (outgoing.Observation cause originator x) ∷ l)
        ≡ x ∷ rows_front cause originator l
    front = rw (eq-eqb cause cause refl, eq-eqb originator originator refl) refl
rows_say clocks part (sendings.News x ∷ l) all e = absurd cc
rows_say clocks part (sendings.Answer answer ∷ l) all e = absurd cc
rows_say clocks part (sendings.Confirm signal ∷ l) all e = absurd cc
rows_say clocks part (sendings.Test ∷ l) all e = absurd cc
rows_say clocks part (sendings.SFormat ∷ l) all e = absurd cc

-- what is next and can be sent says so
says : (clocks : Clocks) (k : Client) (s : Sending) → AllByRecursion (CanSend clocks) (line k)
    → CanSend clocks s → IsNext k s → SaysFit clocks (said_by clocks (content_of clocks k s))
says clocks k (sendings.Confirm signal) all can next = tt
says clocks k sendings.Test all can next = tt
says clocks k (sendings.Answer answer) all can next =
    answer_tells clocks answer (meaning_of clocks (answer_octets clocks answer)) can (answer_means clocks answer can)
says clocks k (sendings.News x) all can next = news_say clocks x (line k) all next
says clocks k (sendings.Part part) all can next = rows_say clocks part (line k) all next
says clocks k sendings.SFormat all can next = tt

carries : (clocks : Clocks) (k : Client) (s : Sending) → AllByRecursion (CanSend clocks) (line k)
    → CanSend clocks s → IsNext k s → CarriesFit clocks (buffer_of (content_of clocks k s))
carries clocks k s all can next =
    subst (λ (x : Option ApduMeaning). IsSomeAnd x (SaysFit clocks))
    (sym (said-content clocks (content_of clocks k s) (content_fits clocks k s)))
    (says clocks k s all can next)

apdu_is : (a b : ApduBuf) → Apdu a ≡ Apdu b → a ≡ b
apdu_is a b e = ap value e
  where
    value : Reply → ApduBuf
    value (Apdu c) = c
    value _ = a

given_carries : (clocks : Clocks) (k : Client) (x : Option Sending) (apdu : ApduBuf)
    → AllByRecursion (CanSend clocks) (line k) → IfSome x (CanSend clocks) → IfSome x (IsNext k)
    → reply_giving (option_map (content_of clocks k) x) ≡ Apdu apdu → CarriesFit clocks apdu
given_carries clocks k None apdu all can next e = absurd cc
given_carries clocks k (Some s) apdu all can next e =
    subst (CarriesFit clocks) (apdu_is (buffer_of (content_of clocks k s)) apdu e)
    (carries clocks k s all can next)

some_is : {A : Type 0} (x y : A) → Some x ≡ Some y → x ≡ y
some_is x y e = cc

-- one of many
at_place : {A : Type 0} (P : A → Type 0) (xs : List A) (n : ℕ) (x : A) → AllByRecursion P xs
    → slice_get xs n ≡ Some x → P x
at_place P [] n x all at = absurd cc
at_place P (y ∷ xs) zero x all at = subst P (some_is y x at) all.0
at_place P (y ∷ xs) (suc n) x all at = at_place P xs n x all.1 at

pub pumped_carries : (client : ℕ) (apdu : ApduBuf) (pumped : IsPumped client (Ok (Apdu apdu)))
    → CarriesFit (station_clocks pumped.setup.station) apdu
pumped_carries client apdu pumped =
    let setup : Setup = pumped.setup in
    let s : State = pumped.state in
    let step : Step = Pump client pumped.moment in
    let clocks : Clocks = (station_clocks setup.station) in
    let moment : ℕ = latest s pumped.moment in
    let told = answered (fault_of s step) (can_be_counted s (needs setup s step)) (reply_to setup s step)
    (Apdu apdu) pumped.allowed.0 in
    let up = who_is_up (λ (k : Client). is_up k.stage) NoClient (slice_get s.clients client) told.0 in
    let k : Client = up.0 in
    let reply : reply_giving (given clocks moment k) ≡ Apdu apdu =
    sym (ap (client_reply (λ (other : Client). reply_giving (given clocks moment other))) up.1) ∙ told.2 in
    let mine =
    at_place (IsSoundClient setup.station s.counts.steps s.counts.news) s.clients client k pumped.sound.clients up.1 in
    given_carries clocks k (offered moment k) apdu
    (line_can setup.station s.counts.steps s.counts.news k mine)
    (offered_can setup.station s.counts.steps s.counts.news moment k mine) (offered_next moment k) reply
