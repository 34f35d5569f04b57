-- What is decided of a line is what the line is answered, and whether it is accepted.
use Rattle.std.proofs.Common.{◌≡◌, ◌≢◌, ℕ, Bool, true, false, cond, List, [], ◌∷◌, Option}
use Rattle.std.proofs.Common.{Some, None, Result, Ok, Err, is_ok, refl, sym, ap, subst, ◌∙◌}
use Rattle.gw_map.specs.Settings.{Setup}
use Rattle.gw_model.specs.declared.observation.Observation.{Observation}
use Rattle.dnp_app.specs.declared.fault.AppFault.{AppFault}
use Rattle.dnp_app.specs.declared.fault.AppFault.TheVariants.{Short, NotResponse, Object, Memory}
use Rattle.dnp_app.specs.Response.{Fragment, response_of}
use Rattle.cmd_text.specs.Hex.{line_octets}
use Rattle.cmd_replay.specs.FragmentText.{accepted_text}
use Rattle.cmd_streams.specs.Standing.{Standing, standing}
use Rattle.cmd_streams.specs.Translation.{Decides, decision_text, news_in, picture_after_reports}
use Rattle.cmd_streams.specs.Answers.{AnswersLine, AreToStore, IsAnswer, are_accepted}
use Rattle.cmd_streams.specs.Answers.{finding_after_decision, finding_after_line, finding_after_lines}
use Rattle.cmd_streams.specs.Answers.{finding_after_refusal, is_accepted, is_empty, line_reports, line_text}
use Rattle.cmd_streams.specs.Answers.{octets_reports, octets_text, picture_then, reports_read, response_text}
use Rattle.cmd_streams.specs.declared.decision.Decision.{Decision}
use Rattle.cmd_streams.specs.declared.decision.Decision.TheVariants.{Empty, NotHex, Refused as RefusedOctets, Accepted}
use Rattle.cmd_streams.specs.declared.translator.Finding.{Finding}

-- ---- a line by its octets

filled : (line : List ℕ) → line ≢ [] → is_empty line ≡ false
filled [] some = absurd (some refl)
filled (x ∷ xs) some = refl

filled_by : (line octets : List ℕ) → line_octets line ≡ Some octets → is_empty line ≡ false
filled_by [] octets found = absurd cc
filled_by (x ∷ xs) octets found = refl

is_accepted-empty : (line : List ℕ) → line ≡ [] → is_accepted line ≡ true
unfolding is_accepted
is_accepted-empty line none = ap is_accepted none

line_text-empty : (setup : Setup) (picture : List Observation) (line : List ℕ) → line ≡ []
    → line_text setup picture line ≡ []
unfolding line_text
line_text-empty setup picture line none = ap (line_text setup picture) none

line_reports-empty : (line : List ℕ) → line ≡ [] → line_reports line ≡ []
unfolding line_reports
line_reports-empty line none = ap line_reports none

is_accepted-filled : (line : List ℕ) (found : Option (List ℕ)) → is_empty line ≡ false → line_octets line ≡ found
    → is_accepted line ≡ are_accepted found
unfolding is_accepted
is_accepted-filled line found some is = ap (λ (b : Bool). cond b true (are_accepted (line_octets line))) some
    ∙ ap are_accepted is

line_text-filled : (setup : Setup) (picture : List Observation) (line : List ℕ) (found : Option (List ℕ))
    → is_empty line ≡ false → line_octets line ≡ found → line_text setup picture line ≡ octets_text setup picture found
unfolding line_text
line_text-filled setup picture line found some is =
    ap (λ (b : Bool). cond b [] (octets_text setup picture (line_octets line))) some
    ∙ ap (octets_text setup picture) is

line_reports-found : (line : List ℕ) (found : Option (List ℕ)) → line_octets line ≡ found
    → line_reports line ≡ octets_reports found
unfolding line_reports
line_reports-found line found is = ap octets_reports is

is_accepted-read : (line octets : List ℕ) (read : Result Fragment AppFault) → line_octets line ≡ Some octets
    → response_of 0 octets ≡ read → is_accepted line ≡ is_ok read
is_accepted-read line octets read found is =
    is_accepted-filled line (Some octets) (filled_by line octets found) found
    ∙ ap is_ok is

line_text-read : (setup : Setup) (picture : List Observation) (line octets : List ℕ) (read : Result Fragment AppFault)
    → line_octets line ≡ Some octets → response_of 0 octets ≡ read
    → line_text setup picture line ≡ response_text setup picture octets read
line_text-read setup picture line octets read found is =
    line_text-filled setup picture line (Some octets) (filled_by line octets found) found
    ∙ ap (response_text setup picture octets) is

line_reports-read : (line octets : List ℕ) (read : Result Fragment AppFault) → line_octets line ≡ Some octets
    → response_of 0 octets ≡ read → line_reports line ≡ reports_read read
line_reports-read line octets read found is = line_reports-found line (Some octets) found ∙ ap reports_read is

-- ---- what was decided

-- a decision is an answer of the line; what is shown and what became of the lines is by it
pub record Answered (before : Standing) (line : List ℕ) (decision : Decision) (news shown : List Observation)
    : Type 0 where
  pub lacks : Bool
  pub answer : IsAnswer before.setup before.picture line lacks (decision_text before.setup decision news)
  pub finding : finding_after_decision before.finding decision ≡ finding_after_line before.finding line lacks
  pub picture : shown ≡ picture_then before.setup before.picture line lacks

module _ (before : Standing) (line : List ℕ) where
  accepted_as : (b : Bool) → is_accepted line ≡ b
      → finding_after_lines before.finding b ≡ finding_after_line before.finding line false
  accepted_as b is = sym (ap (finding_after_lines before.finding) is)

  -- nothing is shown by a line that reports nothing
  shown_nothing : (shown : List Observation) → line_reports line ≡ [] → shown ≡ before.picture
      → shown ≡ picture_then before.setup before.picture line false
  shown_nothing shown none same = same ∙ sym (ap (picture_after_reports before.setup before.picture) none)

  refused-answered : (octets : List ℕ) (fault : AppFault) (news shown : List Observation)
      → finding_after_decision before.finding (RefusedOctets fault) ≡ finding_after_refusal before.finding
      → line_octets line ≡ Some octets → response_of 0 octets ≡ Err fault → shown ≡ before.picture
      → Answered before line (RefusedOctets fault) news shown
  refused-answered octets fault news shown refused found read same = record {
    lacks = false;
    answer = sym (line_text-read before.setup before.picture line octets (Err fault) found read);
    finding = refused ∙ accepted_as false (is_accepted-read line octets (Err fault) found read);
    picture = shown_nothing shown (line_reports-read line octets (Err fault) found read) same;
  }

  decision-answers : (decision : Decision) (news shown : List Observation)
      → Decides before.setup line decision news before.picture shown → Answered before line decision news shown
  decision-answers Empty news shown decides = record {
    lacks = false;
    answer = sym (line_text-empty before.setup before.picture line decides.0);
    finding = accepted_as true (is_accepted-empty line decides.0);
    picture = shown_nothing shown (line_reports-empty line decides.0) decides.2;
  }
  decision-answers NotHex news shown decides =
      let some = filled line decides.0 in record {
        lacks = false;
        answer = sym (line_text-filled before.setup before.picture line None some decides.1);
        finding = accepted_as false (is_accepted-filled line None some decides.1);
        picture = shown_nothing shown (line_reports-found line None decides.1) decides.3;
      }
  decision-answers (RefusedOctets Memory) news shown decides = record {
    lacks = true;
    answer = (subst AreToStore (sym decides.1) decides.2, refl);
    finding = refl;
    picture = decides.4;
  }
  decision-answers (RefusedOctets Short) news shown decides =
      refused-answered decides.0 Short news shown refl decides.1 decides.2 decides.4
  decision-answers (RefusedOctets NotResponse) news shown decides =
      refused-answered decides.0 NotResponse news shown refl decides.1 decides.2 decides.4
  decision-answers (RefusedOctets (Object e)) news shown decides =
      refused-answered decides.0 (Object e) news shown refl decides.1 decides.2 decides.4
  decision-answers (Accepted confirm) news shown decides =
      let read = line_text-read before.setup before.picture line decides.0 (Ok decides.1) decides.2 decides.3 in
      let confirmed = ap
      (λ (c : Option (List ℕ)).
      accepted_text before.setup c (news_in before.setup before.picture decides.1.reports))
      (sym decides.4) in
      let told = ap (accepted_text before.setup confirm) (sym decides.5) in
      let reports = line_reports-read line decides.0 (Ok decides.1) decides.2 decides.3 in record {
        lacks = false;
        answer = sym (read ∙ confirmed ∙ told);
        finding = accepted_as true (is_accepted-read line decides.0 (Ok decides.1) decides.2 decides.3);
        picture = decides.6 ∙ sym (ap (picture_after_reports before.setup before.picture) reports);
      }

  -- what is decided of a line, told by its text, is an answer of the line
  pub AnswersLine-decided : (number : ℕ) (decision : Decision) (news shown : List Observation) (now : Standing)
      → Decides before.setup line decision news before.picture shown
      → now ≡ standing before.setup (finding_after_decision before.finding decision) shown
      → AnswersLine before number line true (decision_text before.setup decision news) now
  AnswersLine-decided number decision news shown now decides is =
      let answer = decision-answers decision news shown decides in (
        refl,
        answer.lacks,
        answer.answer,
        is ∙ ap (λ (f : Finding). standing before.setup f shown) answer.finding
            ∙ ap (standing before.setup (finding_after_line before.finding line answer.lacks)) answer.picture,
      )
