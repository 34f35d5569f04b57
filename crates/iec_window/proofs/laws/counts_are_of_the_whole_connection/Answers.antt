use Rattle.iec_window.proofs.WholeConnection.{window_counts-legal, waiting_at-le, right-legal, named-legal}
use Rattle.iec_window.proofs.laws.counts_are_of_the_whole_connection.Goals as goal

pub returns-clause-counts : goal.returns-clause-counts
returns-clause-counts c = window_counts-legal

pub returns-clause-window : goal.returns-clause-window
returns-clause-window c = waiting_at-le

pub returns-clause-right : goal.returns-clause-right
returns-clause-right c = right-legal

pub returns-clause-named : goal.returns-clause-named
returns-clause-named c = named-legal
