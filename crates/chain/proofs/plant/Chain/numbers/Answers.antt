use Rattle.chain.proofs.Instance.{some_chain}
use Rattle.chain.specs.LawsLemmas.{renewable_from}
use Rattle.chain.proofs.Meaning.{chain_laws, figures}
use Rattle.chain.proofs.plant.Chain.numbers.Goals as goal
use Rattle.chain.specs.Parts.{arcs_of}
use Rattle.workorder.proofs.WorkOrders.{table_held}
use Rattle.std.proofs.Common.{refl, arith}

pub returns : goal.returns
returns c =
    let p = c.args.self.now in
    let n = p.numbers in
    let l = p.ranges in
    let right = table_held (arcs_of n) p.least p.right in
    record {
      value = refl;
      made = record { lawful = l; few = omega (arith, p.counted, p.few); renewable = renewable_from n p.least l right p.renewable; least = right };
      laws = chain_laws n p.least l right;
      figures = figures;
      met = some_chain;
    }
