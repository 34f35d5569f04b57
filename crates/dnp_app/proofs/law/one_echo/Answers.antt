use Rattle.dnp_app.proofs.EchoLaws.{echo_of_is, echo_of_again}
use Rattle.dnp_app.proofs.law.one_echo.Goals as goal

pub returns : goal.returns
returns c = λ octets e. (echo_of_is octets e, echo_of_again octets e)
