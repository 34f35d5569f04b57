use Rattle.gw_threads.proofs.Ended.{all_framed, all_heard}
use Rattle.gw_threads.proofs.reading_laws.all_is_stepped_where_octets_end.Goals as goal

pub returns-clause-responses : goal.returns-clause-responses
returns-clause-responses c = λ setup outstation own peer receiver mine after before now fresh hears.
    all_heard setup outstation own peer receiver mine after before now fresh hears

pub returns-clause-apdus : goal.returns-clause-apdus
returns-clause-apdus c = λ setup client mine after before now frames.
    all_framed setup client mine after before now frames
