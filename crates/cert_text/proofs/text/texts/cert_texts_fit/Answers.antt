use Rattle.cert_text.proofs.Fits.{cert_fits}
use Rattle.cert_text.proofs.text.texts.cert_texts_fit.Goals as goal

pub returns : goal.returns
returns c = cert_fits
