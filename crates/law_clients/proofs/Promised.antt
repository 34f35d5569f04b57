-- All promises at each place of every run.
use Rattle.std.proofs.Common.{List, [], ◌∷◌}
use Rattle.gw_map.specs.Settings.{Setup}
use Rattle.gw_steps.specs.Runs.{Entry, AtEach}
use Rattle.gw_steps.specs.Premises.{IsSoundRun}
use Rattle.law_history.proofs.Confirmed.{confirmed}
use Rattle.law_history.proofs.Places.{Place, places, of_each}
use Rattle.law_clients.specs.Line.{KeepsLine}
use Rattle.law_clients.specs.Numbers.{HasRightNumbers}
use Rattle.law_clients.specs.Promises.{Promises}
use Rattle.law_clients.proofs.News.{tells_news}
use Rattle.law_clients.proofs.Line.{keeps_line}
use Rattle.law_clients.proofs.Answered.{answers_interrogations}
use Rattle.law_clients.proofs.Mirror.{mirrors}
use Rattle.law_clients.proofs.Numbers.{right_numbers}
use Rattle.law_clients.proofs.Frames.{judges_frames}
use Rattle.law_clients.proofs.Apdus.{reads_apdus}
use Rattle.law_clients.proofs.Closes.{LinkedBefore, tells_closes}
use Rattle.law_clients.proofs.Steps.{links}

promised : (setup : Setup) (past : List Entry) → Place setup past → LinkedBefore setup past → Promises setup past
promised setup past place linked = record {
  news = tells_news setup past place;
  interrogations = answers_interrogations setup past place;
  line = of_each setup (KeepsLine setup)
      (keeps_line setup place.given.settings.queue) past place;
  mirror = mirrors setup past place;
  numbers = of_each setup (HasRightNumbers setup.station.k)
      (right_numbers setup place.given.settings.window) past place;
  frames = judges_frames setup past place linked (tells_closes setup past place linked);
  apdus = reads_apdus setup past place;
  confirmations = confirmed setup past place;
  meant = place.given.meant;
  sound = place.known.sound;
}

each_promised : (setup : Setup) (past : List Entry) → AtEach (Place setup) past → AtEach (Promises setup) past
each_promised setup [] at = promised setup [] at tt
each_promised setup (e ∷ past) at = (promised setup (e ∷ past) at.0 (links setup past at.1), each_promised setup past at.1)

pub keeps_promises : (setup : Setup) (past : List Entry) → IsSoundRun setup past → AtEach (Promises setup) past
keeps_promises setup past run = each_promised setup past (places setup past run)
