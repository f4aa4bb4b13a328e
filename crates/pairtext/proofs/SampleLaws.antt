-- The sample is read as it should be.
use Rattle.std.proofs.Common.{refl}
use Rattle.pairtext.specs.Sample.{SampleRead}

pub sample_read : SampleRead
sample_read = (refl, refl)
