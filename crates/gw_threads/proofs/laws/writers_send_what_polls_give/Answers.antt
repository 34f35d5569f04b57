use Rattle.gw_threads.proofs.Standing.{polls_sent}
use Rattle.gw_threads.proofs.laws.writers_send_what_polls_give.Goals as goal

pub returns : goal.returns
returns c = λ setup outstation mine after front cut all. polls_sent setup outstation mine after front cut all
