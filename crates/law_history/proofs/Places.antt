-- What is known at each place of every run: the state is sound and tied to the history, and each client lives its life.
use Rattle.std.proofs.Common.{ℕ, zero, suc, ◌+◌, ◌-◌, ◌≤◌, List, [], ◌∷◌, Option, Some, None, refl, sym, subst, arith}
use Rattle.std.specs.Prelude.{slice_get, replicate}
use Rattle.gw_map.specs.Settings.{Setup}
use Rattle.gw_station.specs.Client.{Client, client_down, limits_of}
use Rattle.gw_steps.specs.State.{client_limit}
use Rattle.gw_steps.specs.Steps.{Allowed}
use Rattle.gw_steps.specs.Runs.{Entry, state_after, AtEach}
use Rattle.gw_steps.specs.Sound.{LeavesSound}
use Rattle.gw_steps.proofs.Running.{last_place}
use Rattle.law_history.specs.Life.{Turn, turn_of, lived, life, OfEachLife}
use Rattle.gw_steps.specs.Premises.{IsSoundRun, client_at}
use Rattle.law_history.proofs.Lives.{Lives}
use Rattle.law_history.proofs.Clients.{Goes, SlotGoes, all_go}
use Rattle.law_history.proofs.Steps.{first_tied, tied_more}
use Rattle.law_history.proofs.Tied.{Tied}

-- where there is no such client, its number is too large
abbrev pub SlotLives : Setup → ℕ → List Turn → Option Client → Type 0
SlotLives setup c ts None = client_limit ≤ c
SlotLives setup c ts (Some k) = Lives setup ts k

pub record Known (setup : Setup) (past : List Entry) : Type 0 where
  pub sound : LeavesSound setup past
  pub tied : Tied setup past (state_after setup past)
  pub lives : (c : ℕ) → SlotLives setup c (life setup c past) (client_at setup c past)

-- the last entry was allowed by what was known before
abbrev pub LastKnown : Setup → List Entry → Type 0
LastKnown setup [] = Unit {0}
LastKnown setup (e ∷ past) = Allowed setup (state_after setup past) e.step e.reply (state_after setup (e ∷ past))
    × Known setup past

pub record Place (setup : Setup) (past : List Entry) : Type 0 where
  pub given : IsSoundRun setup past
  pub known : Known setup past
  pub last : LastKnown setup past

-- ---- at first

down_lives : (setup : Setup) (n d c : ℕ) → client_limit ≤ n + (c - d) → d ≤ c
    → SlotLives setup c [] (slice_get (replicate n (client_down (limits_of setup.station) setup.station.queue)) d)
down_lives setup zero d c few is = omega (arith, few, is)
down_lives setup (suc n) zero c few is = record {
  stage = refl;
  limits = refl;
  acknowledged = refl;
  waiting = refl;
  received = refl;
  limit = refl;
  answers = refl;
  held = refl;
  queue = refl;
  dropped = refl;
  rest = refl;
}
down_lives setup (suc n) (suc d) c few is = down_lives setup n d c (omega (arith, few, is)) (omega (arith, is))

-- ---- one turn more

goes_on : (setup : Setup) (turn : Option Turn) (ts : List Turn) (k new : Client) → Goes setup turn k new
    → Lives setup ts k → Lives setup (lived turn ts) new
goes_on setup None ts k new goes lives = goes
goes_on setup (Some t) ts k new goes lives = (k, lives, goes)

slot_lives : (setup : Setup) (c : ℕ) (turn : Option Turn) (ts : List Turn) (x new : Option Client)
    → SlotGoes setup turn x new → SlotLives setup c ts x → SlotLives setup c (lived turn ts) new
slot_lives setup c turn ts None new goes lives = subst (SlotLives setup c (lived turn ts)) (sym goes) lives
slot_lives setup c turn ts (Some k) new goes lives = subst (SlotLives setup c (lived turn ts)) (sym goes.1)
    (goes_on setup turn ts k goes.0 goes.2 lives)

-- ---- each place

earlier : (setup : Setup) (e : Entry) (past : List Entry) → IsSoundRun setup (e ∷ past) → IsSoundRun setup past
earlier setup e past given =
    record { settings = given.settings; run = given.run.1; sound = given.sound.1; meant = given.meant.1 }

pub places : (setup : Setup) (past : List Entry) → IsSoundRun setup past → AtEach (Place setup) past
places setup [] given = record {
  given = given;
  known = record {
    sound = given.sound;
    tied = first_tied setup;
    lives = λ c. down_lives setup client_limit c c (omega arith) (omega arith);
  };
  last = tt;
}
places setup (e ∷ past) given =
    let so_far = places setup past (earlier setup e past given) in
    let known : Known setup past = (last_place (Place setup) past so_far).known in
    let go = all_go setup past e.step e.reply given.settings.addresses known.sound given.run.0 known.tied in (
      record {
        given = given;
        known = record {
          sound = given.sound.0;
          tied = tied_more setup past e.step e.reply given.settings.addresses given.run.0 known.tied;
          lives = λ c. slot_lives setup c (turn_of setup c past e) (life setup c past) (client_at setup c past)
              (client_at setup c (e ∷ past)) (go c) (known.lives c);
        };
        last = (given.run.0, known);
      },
      so_far,
    )

-- what holds of lives holds of each client's
pub of_each : (setup : Setup) (Law : List Turn → Type 0) → ((ts : List Turn) (k : Client) → Lives setup ts k → Law ts)
    → (past : List Entry) → Place setup past → OfEachLife Law setup past
of_each setup Law law past place c within = by (client_at setup c past) (place.known.lives c)
  where
    by : (x : Option Client) → SlotLives setup c (life setup c past) x → Law (life setup c past)
    by None lives = absurd (omega (arith, lives, within))
    by (Some k) lives = law (life setup c past) k lives
