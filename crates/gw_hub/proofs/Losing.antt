-- The rows of a lost outstation, one after the other: what comes to the clients, and what is shown.
use Rattle.std.proofs.Common.{◌≡◌, ℕ, ◌+◌, ◌<◌, ◌≤◌, List, [], ◌++◌, map}
use Rattle.std.proofs.Common.{length, take, drop, refl, sym, ap, subst, ◌∙◌, arith}
use Rattle.std.specs.List.{AllByRecursion}
use Rattle.std.proofs.lemmas.List.{length-append}
use Rattle.gw_model.specs.declared.observation.Observation.{Observation}
use Rattle.gw_model.specs.Clocks.{Clocks}
use Rattle.gw_entries.specs.declared.row.Row.{Row}
use Rattle.gw_picture.specs.Loss.{losses_at, losses_of, picture_after_loss, picture_losing_at}
use Rattle.gw_picture.proofs.Losses.{loss_next, shown_next, losses_end, shown_end}
use Rattle.gw_station.specs.Client.{Client, client_with_news}
use Rattle.gw_answers.specs.Meaning.{IsSendable}
use Rattle.gw_station.specs.Sound.{WaitsWithin}
use Rattle.gw_station.proofs.Sounds.{sendable-append}
use Rattle.gw_hub.proofs.Taking.{map_came-nil, map_came-twice}

-- what the rows from a place on still lose
abbrev pub rest_of : ℕ → List Row → ℕ → List Observation → List Observation
rest_of o rows n picture = losses_of o (drop n rows) (drop n picture)

-- the rows before a place are done
pub record LeftToLose (clocks : Clocks) (o : ℕ) (rows : List Row) (n : ℕ) (picture : List Observation) (cs : List Client)
    (all last : List Observation) (final : List Client) : Type 0 where
  pub shown : take n picture ++ picture_after_loss o (drop n rows) (drop n picture) ≡ last
  pub clients_left : map (client_with_news (rest_of o rows n picture)) cs ≡ final
  pub sendable : AllByRecursion (IsSendable clocks) (rest_of o rows n picture) → AllByRecursion (IsSendable clocks) all

pub left_at_first : (clocks : Clocks) (o : ℕ) (rows : List Row) (picture : List Observation) (cs : List Client)
    → LeftToLose clocks o rows 0 picture cs (losses_of o rows picture) (picture_after_loss o rows picture)
    (map (client_with_news (losses_of o rows picture)) cs)
left_at_first clocks o rows picture cs = record { shown = refl; clients_left = refl; sendable = λ all. all }

pub left_behind : (clocks : Clocks) (o : ℕ) (rows : List Row) (n : ℕ) (picture new : List Observation)
    (cs changed : List Client) (all last : List Observation) (final : List Client)
    → n < length picture → LeftToLose clocks o rows n picture cs all last final
    → new ≡ picture_losing_at o rows picture n
    → changed ≡ map (client_with_news (losses_at o rows picture n)) cs
    → AllByRecursion (IsSendable clocks) (losses_at o rows picture n)
    → LeftToLose clocks o rows (n + 1) new changed all last final
left_behind clocks o rows n picture new cs changed all last final within left en ec sends =
    let p : List Observation = picture_losing_at o rows picture n in
    let here : List Observation = losses_at o rows picture n in
    let behind : List Observation = rest_of o rows (n + 1) p in
    let split : rest_of o rows n picture ≡ here ++ behind = loss_next o rows picture n within in
    let on : LeftToLose clocks o rows (n + 1) p changed all last final = record {
      shown = sym (shown_next o rows picture n within) ∙ left.shown;
      clients_left = ap (map (client_with_news behind)) ec ∙ (map_came-twice here behind cs
          ∙ (ap (λ (xs : List Observation). map (client_with_news xs) cs) (sym split) ∙ left.clients_left));
      sendable = λ more. left.sendable (subst (AllByRecursion (IsSendable clocks)) (sym split)
          (sendable-append clocks here behind sends more));
    } in
    subst (λ (q : List Observation). LeftToLose clocks o rows (n + 1) q changed all last final) (sym en) on

pub left_at_last : (clocks : Clocks) (o : ℕ) (rows : List Row) (n : ℕ) (picture : List Observation) (cs : List Client)
    (all last : List Observation) (final : List Client)
    → length picture ≤ n → AllByRecursion WaitsWithin cs → LeftToLose clocks o rows n picture cs all last final
    → (picture ≡ last) × (cs ≡ final) × AllByRecursion (IsSendable clocks) all
left_at_last clocks o rows n picture cs all last final past few left =
    let none : rest_of o rows n picture ≡ [] = losses_end o rows picture n past in (
      sym (shown_end o rows picture n past) ∙ left.shown,
      map_came-nil cs few
          ∙ (ap (λ (xs : List Observation). map (client_with_news xs) cs) (sym none) ∙ left.clients_left),
      left.sendable (subst (AllByRecursion (IsSendable clocks)) (sym none) tt),
    )

-- ---- how many more come

pub rest_none : (o : ℕ) (rows : List Row) (n : ℕ) (picture : List Observation) → length picture ≤ n
    → rest_of o rows n picture ≡ []
rest_none o rows n picture past = losses_end o rows picture n past

-- what is left is what this row loses, and what those behind it do
pub rest_length : (o : ℕ) (rows : List Row) (n : ℕ) (picture : List Observation) → n < length picture
    → length (rest_of o rows n picture)
    ≡ length (rest_of o rows (n + 1) (picture_losing_at o rows picture n)) + length (losses_at o rows picture n)
rest_length o rows n picture within =
    omega (
      arith,
      ap length (loss_next o rows picture n within),
      length-append (losses_at o rows picture n) (rest_of o rows (n + 1) (picture_losing_at o rows picture n)),
    )
