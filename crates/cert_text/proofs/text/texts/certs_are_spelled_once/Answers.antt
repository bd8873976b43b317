use Rattle.cert_text.proofs.ReadOnce.{start_low}
use Rattle.cert_text.proofs.SpelledOnce.{one_cert_text, one_cert_of}
use Rattle.cert_text.proofs.text.texts.certs_are_spelled_once.Goals as goal

pub returns : goal.returns
returns c =
    let params = c.args.tour.now.params in
    record {
      one_text = one_cert_text params;
      one_cert = λ a b text. one_cert_of params a b text (start_low params c.requires.params);
    }
