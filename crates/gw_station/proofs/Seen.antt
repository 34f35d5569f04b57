-- What a client sees of the ring: of news that come, of a session that begins, and of news that were given.
use Rattle.std.proofs.Common.{◌≡◌, ℕ, ◌+◌, ◌-◌, ◌≤◌, ◌⊎◌, Bool, true, false, List, [], ◌∷◌}
use Rattle.std.proofs.Common.{◌++◌, length, drop, Option, Some, None, inl, inr, refl, sym, ap, ◌∙◌, arith}
use Rattle.std.specs.Prelude.{is_some, IfSome}
use Rattle.std.proofs.lemmas.List.{drop-drop, length-append, length-drop}
use Rattle.std.proofs.lemmas.Bool.{cases_lt, true≢false}
use Rattle.gw_model.specs.declared.observation.Observation.{Observation}
use Rattle.circular_buffer.specs.Buffer.{keep_last}
use Rattle.gw_station.specs.declared.cursor.Cursor.{Cursor}
use Rattle.gw_station.specs.Client.{client_with_news, is_started, overflow, queue_with}
use Rattle.gw_station.specs.Ring.{Ring, Seat, dropped_in, news_from, older_in, oldest, ring_with, seen, waiting_in, IsWithin, Stands}
use Rattle.gw_station.proofs.Queues.{drop-front, of_all}

-- ---- one more came

-- of those that are kept so many go for it
abbrev gone : Observation → Ring → ℕ
gone x r = length (r.items ++ x ∷ []) - r.limit

-- and of those that wait
abbrev lost : Observation → Ring → Cursor → ℕ
lost x r c = overflow (x ∷ []) r.limit true (news_from c.first r)

kept_waits : (x : Observation) (r : Ring) (c : Cursor) → length r.items ≤ r.limit → length r.items ≤ r.next
    → IsWithin r c
    → gone x r + (c.first - oldest (ring_with x r)) ≡ (c.first - oldest r) + lost x r c
kept_waits x r c few within is = elim is.kept [
  | inl kept ↦
      omega (
        arith,
        few,
        within,
        is.first,
        kept,
        length-append r.items (x ∷ []),
        length-drop (gone x r) (r.items ++ x ∷ []),
        length-append (news_from c.first r) (x ∷ []),
        length-drop (c.first - oldest r) r.items,
      )
  | inr full ↦
      omega (
        arith,
        few,
        within,
        is.first,
        full,
        length-append r.items (x ∷ []),
        length-drop (gone x r) (r.items ++ x ∷ []),
        length-append (news_from c.first r) (x ∷ []),
        length-drop (c.first - oldest r) r.items,
      )
]

first_then : (x : Observation) (r : Ring) (c : Cursor) → length r.items ≤ r.limit → length r.items ≤ r.next
    → IsWithin r c
    → oldest (ring_with x r) - c.first ≡ (oldest r - c.first) + lost x r c
first_then x r c few within is = elim is.kept [
  | inl kept ↦
      omega (
        arith,
        few,
        within,
        is.first,
        kept,
        length-append r.items (x ∷ []),
        length-drop (gone x r) (r.items ++ x ∷ []),
        length-append (news_from c.first r) (x ∷ []),
        length-drop (c.first - oldest r) r.items,
      )
  | inr full ↦
      omega (
        arith,
        few,
        within,
        is.first,
        full,
        length-append r.items (x ∷ []),
        length-drop (gone x r) (r.items ++ x ∷ []),
        length-append (news_from c.first r) (x ∷ []),
        length-drop (c.first - oldest r) r.items,
      )
]

waiting_then : (x : Observation) (r : Ring) (c : Cursor) → length r.items ≤ r.limit → length r.items ≤ r.next
    → IsWithin r c
    → news_from c.first (ring_with x r) ≡ keep_last r.limit (news_from c.first r ++ x ∷ [])
waiting_then x r c few within is =
    let all : List Observation = r.items ++ x ∷ [] in
    let before : ℕ = c.first - oldest r in
    drop-drop (c.first - oldest (ring_with x r)) (gone x r) all
    ∙ (ap (λ (n : ℕ). drop n all) (kept_waits x r c few within is)
    ∙ sym (drop-front (lost x r c) before (before + lost x r c) r.items (x ∷ [])
    (omega (arith, is.first, within)) refl))

-- what a client sees of it
pub came : (x : Observation) (r : Ring) (s : Seat) → length r.items ≤ r.limit → length r.items ≤ r.next → Stands r s
    → seen (ring_with x r) s ≡ client_with_news (x ∷ []) (seen r s)
came x r s few within is = by s.cursor (is_started s.stage) is.0 is.1
  where
    by : (cursor : Option Cursor) (started : Bool) → is_some cursor ≡ started → IfSome cursor (IsWithin r)
        → record (seen r s) {
          queue = waiting_in (ring_with x r) cursor;
          dropped = dropped_in (ring_with x r) cursor;
          older = older_in (ring_with x r) cursor;
        }
        ≡ record (seen r s) {
          queue = queue_with (x ∷ []) r.limit started (waiting_in r cursor);
          dropped = dropped_in r cursor + overflow (x ∷ []) r.limit started (waiting_in r cursor);
          older = older_in r cursor - overflow (x ∷ []) r.limit started (waiting_in r cursor);
        }
    by None true none is = absurd (true≢false (sym none))
    by None false none is = refl
    by (Some c) false some is = absurd (true≢false some)
    by (Some c) true some is =
        let first = first_then x r c few within is in
        of_all (seen r s) (news_from c.first (ring_with x r)) (keep_last r.limit (news_from c.first r ++ x ∷ []))
        (dropped_in (ring_with x r) (Some c)) (dropped_in r (Some c) + lost x r c)
        (older_in (ring_with x r) (Some c)) (older_in r (Some c) - lost x r c)
        (waiting_then x r c few within is) (omega (arith, first)) (omega (arith, first))

within_then : (x : Observation) (r : Ring) (c : Cursor) → length r.items ≤ r.limit → length r.items ≤ r.next
    → IsWithin r c → IsWithin (ring_with x r) c
within_then x r c few within is =
    let long = length-append r.items (x ∷ []) in
    let short = length-drop (gone x r) (r.items ++ x ∷ []) in
    let kept : (oldest (ring_with x r) ≤ c.first) ⊎ (length (ring_with x r).items ≡ r.limit) =
    elim (cases_lt (length r.items + 1) r.limit) [
      | inl room ↦ elim is.kept [
        | inl kept ↦ inl (omega (arith, room, kept, long, short, within))
        | inr full ↦ absurd (omega (arith, room, full))
      ]
      | inr full ↦ inr (omega (arith, full, few, long, short))
    ] in
    record { first = omega (arith, is.first); kept = kept; dropped = is.dropped }
