use Rattle.gw_threads.proofs.ReadingWhole.{fragments_confirmed}
use Rattle.gw_threads.proofs.reading_laws.readers_confirm_what_fragments_give.Goals as goal

pub returns : goal.returns
returns c = λ setup outstation mine after front cut all. fragments_confirmed setup outstation mine after front cut all
