use Rattle.std.proofs.Common.{◌≡◌, map, sym, subst}
use Rattle.std.specs.Result.{IfOk}
use Rattle.std.specs.Option.{option_map}
use Rattle.bookkeeping.specs.Standings.{book_of}
use Rattle.certificate.specs.Certificates.{Sound}
use Rattle.certificate.specs.ExactClaims.{Tightest}
use Rattle.certificate.specs.Findings.{Accepts, Verdict}
use Rattle.following.specs.Promises.{Promised}
use Rattle.service.specs.Services.{Serves}
use Rattle.service.proofs.serve.serve.Goals as goal

pub returns-clause-promised : goal.returns-clause-promised
returns-clause-promised g c =
    let row = g.T.Tariff.row in
    let m = g.P.Plant.model c.args.plant.now in
    let t = g.T.Tariff.scale c.args.tariff.now in
    let vs = map row c.plan.new.values in
    let ps = c.plan.new.policy in
    let k = c.in_ok-claims.claims in
    let f = c.unwrap-finding.result in
    let is_so = c.unwrap-finding.ensures in
    let verdict = subst (Verdict row m t vs ps k.low k.high) is_so c.accept.ensures.verdict in
    let low : ◌≡◌ k.low f.low = sym verdict.1.low_kept in
    let high : ◌≡◌ k.high f.high = sym verdict.1.high_kept in
    record {
      sound = subst (λ h. Sound m t vs ps (row f.low) (row h)) high (subst (λ l. Sound m t vs ps (row l) (row k.high)) low c.in_ok-claims.ensures.sound);
      accepted = subst (λ h. Accepts row m t vs ps f.low h) high (subst (λ l. Accepts row m t vs ps l k.high) low c.in_ok-claims.ensures.accepted);
      top = verdict.1.top_found;
      bottom = verdict.1.bottom_found;
      tightest = subst (λ h. Tightest m t vs ps (row f.low) (row h)) high (subst (λ l. Tightest m t vs ps (row l) (row k.high)) low c.in_ok-claims.ensures.tightest);
      bound = subst (λ z. IfOk z (Promised row m t ps)) is_so c.accept.ensures.promise;
      past = subst (λ z. Serves m ps z (g.O.Operator.turns c.keep_book-book.new.operator) (option_map book_of c.keep_book-book.result)) c.found.ensures.turns c.keep_book-book.ensures.served;
    }
