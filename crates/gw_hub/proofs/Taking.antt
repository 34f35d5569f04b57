-- Reports taken in turn: what comes to the clients, and what is kept.
use Rattle.std.specs.Prelude.{◌&&◌}
use Rattle.std.proofs.lemmas.Bool.{ltb-true}
use Rattle.gw_steps.specs.State.{Counts}
use Rattle.gw_steps.specs.Steps.{can_rise}
use Rattle.gw_hub.specs.Hub.{step_with}
use Rattle.std.proofs.Common.{◌≡◌, Bool, true, false, ltb, ℕ, ◌+◌, ◌^◌, ◌<◌, ◌≤◌, List}
use Rattle.std.proofs.Common.{[], ◌∷◌, ◌++◌, map, length, refl, sym, ap, subst, ◌∙◌, arith}
use Rattle.std.specs.List.{AllByRecursion}
use Rattle.std.proofs.lemmas.List.{length-append}
use Rattle.gw_model.specs.declared.observation.Observation.{Observation}
use Rattle.gw_entries.specs.declared.row.Row.{Row}
use Rattle.gw_model.specs.declared.point.Report.{Report}
use Rattle.gw_model.specs.Places.{change}
use Rattle.gw_model.specs.Clocks.{Clocks}
use Rattle.gw_map.specs.Settings.{station_clocks}
use Rattle.gw_entries.specs.Setup.{StationSetup}
use Rattle.gw_picture.specs.Picture.{news_of, news_of_report, picture_after_report, picture_after}
use Rattle.gw_picture.specs.Shown.{IsShown}
use Rattle.gw_picture.proofs.Shows.{shown_fit}
use Rattle.gw_station.specs.Client.{Client, client_after_tick, client_with_news}
use Rattle.gw_answers.specs.Meaning.{IsSendable}
use Rattle.gw_station.specs.Sound.{IsSoundClient, WaitsWithin}
use Rattle.gw_station.proofs.Queues.{came-nil, came-twice, came_within}
use Rattle.gw_station.proofs.Sounds.{all_later, sendable-append, sound_after_tick, sound_later, sound_with_news}
use Rattle.gw_parts.specs.Clients.{CanCount, CanPump}
use Rattle.gw_hub.proofs.Each.{all_changed, all_mapped, all_so, has_at}

-- ---- news that come one after the other

-- no news change nothing
pub map_came-nil : (cs : List Client) → AllByRecursion WaitsWithin cs → cs ≡ map (client_with_news []) cs
map_came-nil [] all = refl
map_came-nil (c ∷ cs) all = let one = sym (came-nil c all.0) in let rest = map_came-nil cs all.1 in cc

pub came_none : (xs : List Observation) (cs : List Client) → [] ≡ xs → AllByRecursion WaitsWithin cs
    → cs ≡ map (client_with_news xs) cs
came_none xs cs e all = subst (λ (ys : List Observation). cs ≡ map (client_with_news ys) cs) e (map_came-nil cs all)

pub map_came-twice : (xs ys : List Observation) (cs : List Client)
    → map (client_with_news ys) (map (client_with_news xs) cs) ≡ map (client_with_news (xs ++ ys)) cs
map_came-twice xs ys [] = refl
map_came-twice xs ys (c ∷ cs) = let one = came-twice xs ys c in let rest = map_came-twice xs ys cs in cc

-- no more wait than may
pub within_then : (xs : List Observation) (cs changed : List Client) → changed ≡ map (client_with_news xs) cs
    → AllByRecursion WaitsWithin cs → AllByRecursion WaitsWithin changed
within_then xs cs changed e all =
    all_mapped WaitsWithin WaitsWithin (client_with_news xs) cs changed e (came_within xs) all

-- ---- what every client keeps

-- one client changed in a step
pub sound_change : (station : StationSetup) (n m i j p : ℕ) (f : Client → Client) (cs changed : List Client)
    → changed ≡ change p f cs → m ≡ n + 1 → i ≤ j
    → ((c : Client) → IsSoundClient station n i c → IsSoundClient station (n + 1) i (f c))
    → AllByRecursion (IsSoundClient station n i) cs → AllByRecursion (IsSoundClient station m j) changed
sound_change station n m i j p f cs changed e one few keeps all =
    let sound = IsSoundClient station n i in
    let step = IsSoundClient station (n + 1) i in
    all_later station (n + 1) m i j changed (omega (arith, one)) few
    (subst (AllByRecursion step) (sym e) (all_changed sound sound step p f cs
    (λ c all. sound_later station n (n + 1) i i c (omega arith) (omega arith) all) (λ c _ all. keeps c all)
    (has_at sound cs p all) all))

-- time passed for every client
pub sound_ticked : (station : StationSetup) (n i moment : ℕ) (cs : List Client)
    → AllByRecursion (IsSoundClient station n i) cs
    → AllByRecursion (IsSoundClient station n i) (map (client_after_tick moment) cs)
sound_ticked station n i moment cs all =
    let sound = IsSoundClient station n i in
    all_mapped sound sound (client_after_tick moment) cs _ refl (sound_after_tick station n i moment) all

-- news came to every client in a step
pub sound_came : (station : StationSetup) (n m i j : ℕ) (xs : List Observation) (cs changed : List Client)
    → changed ≡ map (client_with_news xs) cs → AllByRecursion (IsSendable (station_clocks station)) xs
    → n ≤ m → i + length xs ≤ j → AllByRecursion (IsSoundClient station n i) cs
    → AllByRecursion (IsSoundClient station m j) changed
sound_came station n m i j xs cs changed e sends le few all =
    all_later station n m (i + length xs) j changed le few
    (all_mapped (IsSoundClient station n i) (IsSoundClient station n (i + length xs)) (client_with_news xs) cs changed e
    (λ c sound. sound_with_news station n i xs c sends sound) all)

-- what is shown can be sent
pub sendable_shown : (clocks : Clocks) (xs : List Observation) → AllByRecursion IsShown xs
    → AllByRecursion (IsSendable clocks) xs
sendable_shown clocks xs all =
    all_so IsShown (IsSendable clocks) xs
    (λ x shown. record { fit = shown_fit clocks x shown; width = shown.width }) all

-- ---- what can be counted

-- counts that can rise can rise by a step
pub can_rise_step : (counts : Counts) (news sessions : ℕ) → can_rise counts (step_with news sessions) ≡ true
    → counts.steps + 1 < 2 ^ 64
can_rise_step counts news sessions e =
    ltb-true (counts.steps + 1) (2 ^ 64)
    (first (ltb (counts.steps + 1) (2 ^ 64)) (ltb (counts.news + news) (2 ^ 64))
    (first (ltb (counts.steps + 1) (2 ^ 64) && ltb (counts.news + news) (2 ^ 64))
    (ltb (counts.sessions + sessions) (2 ^ 64)) e))
  where
    first : (a b : Bool) → a && b ≡ true → a ≡ true
    first true b e = refl
    first false b e = absurd cc

-- and by the news
pub can_rise_news : (counts : Counts) (news sessions : ℕ) → can_rise counts (step_with news sessions) ≡ true
    → counts.news + news < 2 ^ 64
can_rise_news counts news sessions e =
    ltb-true (counts.news + news) (2 ^ 64)
    (middle (ltb (counts.steps + 1) (2 ^ 64)) (ltb (counts.news + news) (2 ^ 64))
    (ltb (counts.sessions + sessions) (2 ^ 64)) e)
  where
    middle : (a b c : Bool) → a && b && c ≡ true → b ≡ true
    middle true true c e = refl
    middle true false c e = absurd cc
    middle false b c e = absurd cc

-- where one step more can be counted, each client's I formats can
pub counts_can : (station : StationSetup) (n i : ℕ) (cs : List Client) → n + 1 < 2 ^ 64
    → AllByRecursion (IsSoundClient station n i) cs → AllByRecursion CanCount cs
counts_can station n i cs lt all =
    all_so (IsSoundClient station n i) CanCount cs
    (λ c sound. record { received = omega (arith, lt, sound.window.received) }) all

-- so one more can be put out to each client
pub pumps_can : (station : StationSetup) (n i : ℕ) (cs : List Client) → n + 1 < 2 ^ 64
    → AllByRecursion (IsSoundClient station n i) cs → AllByRecursion CanPump cs
pumps_can station n i cs lt all =
    all_so (IsSoundClient station n i) CanPump cs
    (λ c sound. record { sent = omega (arith, lt, sound.window.sent) }) all

pub sound_within : (station : StationSetup) (n i : ℕ) (cs : List Client)
    → AllByRecursion (IsSoundClient station n i) cs → AllByRecursion WaitsWithin cs
sound_within station n i cs all = all_so (IsSoundClient station n i) WaitsWithin cs (λ c sound. sound.few) all

-- ---- what is left to take

-- n news were taken, and the rest of the reports brings what is left of all
pub record Left (clocks : Clocks) (rows : List Row) (n : ℕ) (picture : List Observation) (rest : List Report)
    (cs : List Client) (all last : List Observation) (final : List Client) : Type 0 where
  pub count : n + length (news_of clocks rows picture rest) ≡ length all
  pub shown : picture_after clocks rows picture rest ≡ last
  pub clients_left : map (client_with_news (news_of clocks rows picture rest)) cs ≡ final
  pub sendable : AllByRecursion (IsSendable clocks) (news_of clocks rows picture rest)
      → AllByRecursion (IsSendable clocks) all

pub left_first : (clocks : Clocks) (rows : List Row) (picture : List Observation) (rs : List Report) (cs : List Client)
    → Left clocks rows 0 picture rs cs (news_of clocks rows picture rs) (picture_after clocks rows picture rs)
    (map (client_with_news (news_of clocks rows picture rs)) cs)
left_first clocks rows picture rs cs =
    record { count = omega arith; shown = refl; clients_left = refl; sendable = λ all. all }

pub left_more : (clocks : Clocks) (rows : List Row) (n m : ℕ) (picture new : List Observation) (r : Report)
    (now rest : List Report) (cs changed : List Client) (all last : List Observation) (final : List Client)
    → Left clocks rows n picture now cs all last final → now ≡ r ∷ rest
    → m ≡ length (news_of_report clocks rows picture r) → new ≡ picture_after_report clocks rows picture r
    → changed ≡ map (client_with_news (news_of_report clocks rows picture r)) cs
    → AllByRecursion (IsSendable clocks) (news_of_report clocks rows picture r)
    → Left clocks rows (n + m) new rest changed all last final
left_more clocks rows n m picture new r now rest cs changed all last final left is em en ec sends =
    let xs : List Observation = news_of_report clocks rows picture r in
    let ys : List Observation = news_of clocks rows (picture_after_report clocks rows picture r) rest in
    let here : Left clocks rows n picture (r ∷ rest) cs all last final =
    subst (λ (rs : List Report). Left clocks rows n picture rs cs all last final) is left in
    let on : Left clocks rows (n + m) (picture_after_report clocks rows picture r) rest changed all last final =
    record {
      count = omega (arith, here.count, length-append xs ys, em);
      shown = here.shown;
      clients_left = ap (map (client_with_news ys)) ec ∙ (map_came-twice xs ys cs ∙ here.clients_left);
      sendable = λ more. here.sendable (sendable-append clocks xs ys sends more);
    } in
    subst (λ (p : List Observation). Left clocks rows (n + m) p rest changed all last final) (sym en) on

pub left_none : (clocks : Clocks) (rows : List Row) (n : ℕ) (picture : List Observation) (rest : List Report)
    (cs : List Client) (all last : List Observation) (final : List Client)
    → rest ≡ [] → AllByRecursion WaitsWithin cs → Left clocks rows n picture rest cs all last final
    → (n ≡ length all) × (picture ≡ last) × (cs ≡ final) × AllByRecursion (IsSendable clocks) all
left_none clocks rows n picture rest cs all last final e few left =
    let here : Left clocks rows n picture [] cs all last final =
    subst (λ (rs : List Report). Left clocks rows n picture rs cs all last final) e left in
    (omega (arith, here.count), here.shown, map_came-nil cs few ∙ here.clients_left, here.sendable tt)

-- the first of the reports brings no more than all of them, and the others the rest
pub rest_length : (clocks : Clocks) (rows : List Row) (picture : List Observation) (r : Report) (now rest : List Report)
    → now ≡ r ∷ rest
    → length (news_of clocks rows picture now)
    ≡ length (news_of clocks rows (picture_after_report clocks rows picture r) rest)
    + length (news_of_report clocks rows picture r)
rest_length clocks rows picture r now rest e =
    ap (λ (rs : List Report). length (news_of clocks rows picture rs)) e
    ∙ omega (
      arith,
      length-append (news_of_report clocks rows picture r)
          (news_of clocks rows (picture_after_report clocks rows picture r) rest),
    )
