use Rattle.std.proofs.Common.{refl}
use lib.Ieee.{of_bits, add, sub, mul, div, neg, lt, le, eq, to_signed}
use Rattle.std.specs.Float.{round_with, float_with_sign, float_mul_add}
use Rattle.double_double.specs.Fused.{fused_domain}
use Rattle.erfc.specs.Scaling.{ldexp_of}
use Rattle.figures.proofs.figures_stand.Goals as goal

pub returns : goal.returns
unfolding of_bits add sub mul div neg lt le eq to_signed round_with float_with_sign float_mul_add fused_domain ldexp_of
returns c =
    record {
      rounds = (refl, (refl, (refl, tt)));
      scales = (refl, (refl, tt));
      plain_square = refl;
      fused_square = refl;
      steps = (record { fast_is = refl; k_is = refl; indices_are = refl; accurate_is = refl; big_is = refl }, (record { fast_is = refl; k_is = refl; indices_are = refl; accurate_is = refl; big_is = refl }, tt));
      classes = (refl, (refl, (refl, (refl, (refl, (refl, tt))))));
    }
