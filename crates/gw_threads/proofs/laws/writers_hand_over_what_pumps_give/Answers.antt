use Rattle.gw_threads.proofs.Taken.{all_taken, calls_taken, front_taken}
use Rattle.gw_threads.proofs.laws.writers_hand_over_what_pumps_give.Goals as goal

pub returns-clause-calls : goal.returns-clause-calls
returns-clause-calls c = λ setup client mine after before now writes.
    calls_taken setup client mine after before now writes

pub returns-clause-front : goal.returns-clause-front
returns-clause-front c = λ setup client mine after before now writes.
    front_taken setup client mine after before now writes

pub returns-clause-history : goal.returns-clause-history
returns-clause-history c = λ client mine after before now writes. all_taken client mine after before now writes
