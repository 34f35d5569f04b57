use Rattle.cmd_line.proofs.reading.gateway_command.Goals as goal

pub returns : goal.returns
returns c =
    c.with_subcommand.ensures _ _
    (c.with_subcommand-program-5.ensures _ _
    (c.with_subcommand-program-4.ensures _ _
    (c.with_subcommand-program-3.ensures _ _
    (c.with_subcommand-program-2.ensures _ _
    (c.with_subcommand-program.ensures _ _ c.gateway_alone.ensures
    c.check_command.ensures.app c.check_command.ensures.local)
    c.points_command.ensures.app c.points_command.ensures.local)
    c.translate_command.ensures.app c.translate_command.ensures.local)
    c.file_command-replay.ensures.app c.file_command-replay.ensures.local)
    c.pcap_command.ensures.app c.pcap_command.ensures.local)
    c.following_command.ensures.app c.following_command.ensures.local
