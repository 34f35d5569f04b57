-- A response is read.
use Rattle.std.proofs.Common.{◌≡◌, ◌≢◌, ℕ, ◌-◌, ◌≤◌, List, [], ◌∷◌, length, take, drop}
use Rattle.std.proofs.Common.{ltb, true, false, Option, Result, Ok, Err, refl, sym, ap, subst, ◌∙◌}
use Rattle.std.specs.Prelude.{IfErr, IsErrOf}
use Rattle.std.proofs.lemmas.Bool.{le-ltb}
use Rattle.std.specs.Result.{result_unwrap_or}
use Rattle.gw_model.specs.declared.point.Report.{Report}
use Rattle.dnp_objects.specs.declared.fault.ObjectFault.{ObjectFault}
use Rattle.gw_model.specs.Outcome.{Gives}
use Rattle.dnp_objects.specs.declared.header.Header.{Header}
use Rattle.dnp_objects.specs.Headers.{headers_of, IsStoredAt}
use Rattle.dnp_objects.proofs.HeaderLaws.{first_stored}
use Rattle.dnp_points.specs.Meaning.{Means, reports_of}
use Rattle.dnp_points.proofs.ReportLaws.{meaning-again}
use Rattle.dnp_app.specs.declared.fault.AppFault.{AppFault}
use Rattle.dnp_app.specs.declared.fault.AppFault.TheVariants.{Short, NotResponse, Object, Memory}
use Rattle.dnp_app.specs.Response.{Fragment, fragment_of, fragment_spelt, IsResponse}
use Rattle.dnp_app.specs.Response.{is_response, StoresHeader, IsRefused, response_of, is_memory}
use Rattle.dnp_app.specs.declared.echoed.Echo.{Echo}
use Rattle.dnp_app.specs.Echo.{headers_in, lone_echoes, only_one, echo_of}
use Rattle.dnp_app.specs.SteppedOver.{stepped_over_count, stepped_over_count_of}
use Rattle.dnp_app.proofs.Echoes.{all_from}

pub response-again : (f : Fragment) → IsResponse f → response_of f.outstation f.octets ≡ Ok f
response-again f is =
    let long : ltb (length f.octets) 4 ≡ false = le-ltb _ _ is.long in
    rw (long, is.function, meaning-again f.outstation _ f.reports is.means) refl

-- what the octets of a response spell is that response
pub spelt : (f : Fragment) → IsResponse f → fragment_spelt f.outstation f.octets ≡ f
spelt f is =
    ap (λ (read : Result (List Report) ObjectFault). fragment_of f.outstation f.octets (result_unwrap_or read []))
    (meaning-again f.outstation (drop 4 f.octets) f.reports is.means)

pub only : {X : Type 0} (view : X → Fragment) (r : Result X AppFault) (outstation : ℕ) (octets : List ℕ)
    → Gives is_memory view r (response_of outstation octets)
    → (f : Fragment) → IsResponse f → f.octets ≡ octets → f.outstation ≡ outstation → Gives is_memory view r (Ok f)
only view r outstation octets exact f is eo es =
    let read : response_of outstation octets ≡ Ok f = rw (← eo, ← es) (response-again f is) in
    subst (λ (x : Result Fragment AppFault). Gives is_memory view r x) read exact

-- which refusal it is
pub refused : {X : Type 0} (view : X → Fragment) (r : Result X AppFault) (outstation : ℕ) (octets : List ℕ)
    → Gives is_memory view r (response_of outstation octets) → (IsErrOf r Memory → StoresHeader octets)
    → IfErr r (λ fault. IsRefused outstation fault octets)
refused view (Ok x) outstation octets exact memory = tt
refused view (Err Memory) outstation octets exact memory = memory refl
refused view (Err Short) outstation octets exact memory = exact
refused view (Err NotResponse) outstation octets exact memory = exact
refused view (Err (Object e)) outstation octets exact memory = exact

-- ---- while a response is read

-- the object part, as the octets from the fifth on
pub part_is : (octets seen : List ℕ) → seen ≡ octets → take (length seen - 4) (drop 4 seen) ≡ drop 4 octets
part_is octets seen e = all_from 4 seen ∙ ap (drop 4) e

-- a response that was read
pub is_read : (outstation : ℕ) (octets part : List ℕ) (reports : List Report) → 4 ≤ length octets
    → is_response octets ≡ true → part ≡ drop 4 octets → Means outstation part reports
    → IsResponse (fragment_of outstation octets reports)
is_read outstation octets part reports long function at means =
    record { long = long; function = function; means = subst (λ (t : List ℕ). Means outstation t reports) at means }

-- memory runs out where a header is stored
pub stores_header : (octets part : List ℕ) (place : ℕ) → 4 ≤ length octets → is_response octets ≡ true
    → part ≡ drop 4 octets → IsStoredAt part place → StoresHeader octets
stores_header octets part place long function at stored =
    record {
      long = long;
      function = function;
      place = place;
      header = subst (λ (t : List ℕ). IsStoredAt t place) at stored;
    }

-- where a part reports something, its first header is stored
pub told_stored : (outstation : ℕ) (part : List ℕ) (hs : List Header) → headers_of part ≡ Ok hs
    → reports_of outstation part hs ≢ [] → IsStoredAt part 0
told_stored outstation part [] read some = absurd (some refl)
told_stored outstation part (h ∷ hs) read some = first_stored part h hs read

headers_known : (octets part : List ℕ) (hs : List Header) → part ≡ drop 4 octets → headers_of part ≡ Ok hs
    → headers_in octets ≡ hs
headers_known octets part hs at read =
    let known : headers_of (drop 4 octets) ≡ Ok hs = ap headers_of (sym at) ∙ read in
    rw known refl

-- what is kept of a response: its echo, and how much it steps over
pub echo_kept : (octets part : List ℕ) (hs seen : List Header) (kept : Option Echo) → part ≡ drop 4 octets
    → headers_of part ≡ Ok hs → seen ≡ hs
    → kept ≡ only_one (lone_echoes part seen) → kept ≡ echo_of octets
echo_kept octets part hs seen kept at read same e =
    e ∙ (ap (λ (t : List ℕ). only_one (lone_echoes t seen)) at ∙ ap (λ (xs : List Header).
    only_one (lone_echoes (drop 4 octets) xs)) (same ∙ sym (headers_known octets part hs at read)))

pub count_kept : (octets part : List ℕ) (hs seen : List Header) (kept : ℕ) → part ≡ drop 4 octets
    → headers_of part ≡ Ok hs → seen ≡ hs
    → kept ≡ stepped_over_count seen → kept ≡ stepped_over_count_of octets
count_kept octets part hs seen kept at read same e =
    e ∙ ap stepped_over_count (same ∙ sym (headers_known octets part hs at read))
