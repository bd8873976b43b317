-- What a check asks of the certificate and of the book.
use Rattle.std.specs.Prelude.{◌≡◌, ◌*◌, ◌≤◌, List, length}
use Rattle.duty_core.specs.declared.activity.Activity.{Activity}
use Rattle.duty_core.specs.declared.params.Params.{Params}
use Rattle.duty_core.specs.declared.limits.TheConstants.{LONGEST_LOG}
use Rattle.duty_core.specs.Lawful.{IsLawful}
use Rattle.duty_core.specs.Params.{unit_minutes}
use Rattle.tour_model.specs.declared.tour.Tour.{Tour}
use Rattle.tour_model.specs.Schedule.{log_start}
use Rattle.tour_model.specs.Tour.{IsTour}
use Rattle.cert_text.specs.declared.cert.Cert.{Cert}
use Rattle.cert_checker.specs.Verdicts.{IsSmallCert}

-- The certificate of the tour after the lawful log can be checked by a book with these parameters, which are the tour's.
pub record IsCheckable (tour : Tour) (log : List Activity) (cert : Cert) (params : Params) : Type 0 where
  pub is_tour : IsTour tour
  pub own : params ≡ tour.params
  pub short : unit_minutes tour.params * length log ≤ LONGEST_LOG
  pub lawful : IsLawful tour.params (log_start tour log) log
  pub small : IsSmallCert cert
