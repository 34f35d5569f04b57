use Rattle.cmd_line.proofs.reading.pcap_command.Goals as goal

pub returns-clause-app : goal.returns-clause-app
returns-clause-app c =
    c.with_argument.ensures.app _ _ c.file_command-command.ensures.app c.out_argument-out.ensures.rule

pub returns-clause-local : goal.returns-clause-local
returns-clause-local c = c.with_argument.ensures.local c.file_command-command.ensures.local
