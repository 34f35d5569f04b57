-- The octets before a place of a part, which were read as headers already.
use Rattle.std.proofs.Common.{◌≡◌, ℕ, ◌+◌, ◌-◌, ◌<◌, List, [], ◌∷◌, ◌++◌, length}
use Rattle.std.proofs.Common.{take, drop, Ok, refl, sym, ap, subst, ◌∙◌, append_assoc, arith}
use Rattle.std.specs.Prelude.{Result, IsOk}
use Rattle.std.proofs.lemmas.List.{take_at, drop_at, length-append, append-nil}
use Rattle.dnp_objects.specs.declared.fault.ObjectFault.{ObjectFault}
use Rattle.dnp_objects.specs.declared.header.Header.{Header}
use Rattle.dnp_objects.specs.Headers.{header_at, octets_after, StandsAt, AreHeaders, IsStoredAt}
use Rattle.dnp_objects.proofs.HeaderLaws.{found_at, parts_length}

-- one more header behind others
AreHeaders-append : (place : ℕ) (octets : List ℕ) (hs : List Header) (new : List ℕ) (h : Header) (rest : List ℕ)
    → AreHeaders place octets hs
    → StandsAt (place + length octets) new h rest
    → (more : List ℕ) × (new ≡ more ++ rest) × AreHeaders place (octets ++ more) (hs ++ h ∷ [])
AreHeaders-append place octets [] new h rest are s =
    let more : List ℕ = s.text ++ s.body in
    let here : place + length octets ≡ place = omega (arith, ap length are) in
    let one : StandsAt place more h [] = record {
      variation = s.variation;
      text = s.text;
      body = s.body;
      parts = ap (λ (t : List ℕ). s.text ++ t) (sym (append-nil s.body));
      spelled = s.spelled;
      at = s.at ∙ here;
      starts = s.starts ∙ ap (λ (n : ℕ). n + length s.text) here;
      sized = s.sized;
    } in (
      more,
      s.parts ∙ sym (append_assoc s.text s.body rest),
      subst (λ (t : List ℕ). AreHeaders place (t ++ more) (h ∷ [])) (sym are) ([], one, refl),
    )
AreHeaders-append place octets (x ∷ hs) new h rest are s =
    let behind = are.0 in
    let front = are.1 in
    let lens = parts_length place octets x behind front in
    let next : place + length octets ≡ (x.start + octets_after front.variation x) + length behind =
    omega (arith, lens.0, front.starts) in
    let others = AreHeaders-append (x.start + octets_after front.variation x) behind hs new h rest are.2
    (subst (λ (n : ℕ). StandsAt n new h rest) next s) in
    let more = others.0 in
    let first : StandsAt place (octets ++ more) x (behind ++ more) = record {
      variation = front.variation;
      text = front.text;
      body = front.body;
      parts = ap (λ (t : List ℕ). t ++ more) front.parts ∙ (append_assoc front.text (front.body ++ behind) more
          ∙ ap (λ (t : List ℕ). front.text ++ t) (append_assoc front.body behind more));
      spelled = front.spelled;
      at = front.at;
      starts = front.starts;
      sized = front.sized;
    } in
    (more, others.1, (behind ++ more, first, others.2))

-- what stands before the rest of a part is these headers
pub record ReadBefore (part rest : List ℕ) (hs : List Header) : Type 0 where
  pub front : List ℕ
  pub parts : part ≡ front ++ rest
  pub are : AreHeaders 0 front hs

pub none_before : (part : List ℕ) → ReadBefore part part []
none_before part = record { front = []; parts = refl; are = refl }

-- the place of the rest
place_of : (part rest : List ℕ) (hs : List Header) (b : ReadBefore part rest hs)
    → length b.front ≡ length part - length rest
place_of part rest hs b = omega (arith, ap length b.parts, length-append b.front rest)

pub more_before : (part rest : List ℕ) (hs : List Header) (h : Header) (after : List ℕ) → ReadBefore part rest hs
    → header_at (length part - length rest) rest ≡ Ok (h, after) → ReadBefore part after (hs ++ h ∷ [])
more_before part rest hs h after b read =
    let at : StandsAt (length b.front) rest h after = subst (λ (n : ℕ). StandsAt n rest h after)
    (sym (place_of part rest hs b)) (found_at (length part - length rest) rest (h, after) read) in
    let zero_first : length b.front ≡ 0 + length b.front = omega arith in
    let longer =
    AreHeaders-append 0 b.front hs rest h after b.are (subst (λ (n : ℕ). StandsAt n rest h after) zero_first at) in
    record {
      front = b.front ++ longer.0;
      parts = b.parts ∙ (ap (λ (t : List ℕ). b.front ++ t) longer.1 ∙ sym (append_assoc b.front longer.0 after));
      are = longer.2;
    }

is_ok : (r : Result (Header × List ℕ) ObjectFault) (x : Header × List ℕ) → r ≡ Ok x → IsOk r
is_ok r x e = subst IsOk (sym e) refl

-- a header that was read after fewer than 512 others is stored
pub stored : (part rest : List ℕ) (hs : List Header) (h : Header) (after : List ℕ) → ReadBefore part rest hs
    → length hs < 512
    → header_at (length part - length rest) rest ≡ Ok (h, after) → IsStoredAt part (length part - length rest)
stored part rest hs h after b fewer read =
    let place : ℕ = length part - length rest in
    let before : take place part ≡ b.front =
    ap (take place) b.parts ∙ take_at b.front rest place (place_of part rest hs b) in
    let behind : drop place part ≡ rest =
    ap (drop place) b.parts ∙ drop_at b.front rest place (place_of part rest hs b) in
    record {
      before = hs;
      are = subst (λ (t : List ℕ). AreHeaders 0 t hs) (sym before) b.are;
      fewer = fewer;
      here =
          subst (λ (t : List ℕ). IsOk (header_at place t)) (sym behind) (is_ok (header_at place rest) (h, after) read);
    }
