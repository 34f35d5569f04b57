use Rattle.std.proofs.Common.{rules}
use Rattle.iec_window.proofs.Numbers.{new_acknowledgements-means}
use Rattle.iec_window.proofs.window.Window.is_right_receive.Goals as goal

-- N(R) is right where it names a count.
pub returns-then-from-lt-NUMBERS-clause-meaning : goal.returns-then-from-lt-NUMBERS-clause-meaning
returns-then-from-lt-NUMBERS-clause-meaning c =
    new_acknowledgements-means c.args.nr c.args.self.now _ _
    (search rules) c.new_acknowledgements.ensures.bounded c.new_acknowledgements.ensures.value (search rules)
