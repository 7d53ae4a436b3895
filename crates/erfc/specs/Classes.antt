-- The classes of arguments, and which are refused, by their bits. Definitions only.
use Rattle.std.specs.Prelude.{ℕ, cond, ◌==◌, nat_le, nat_lt, Ok, Err, Result}
use Rattle.erfc.specs.declared.classes.Class.{Class}
use Rattle.erfc.specs.declared.classes.Class.TheVariants.{Nan, Zero, Two, One, FastTail, FarTail, Listed}
use Rattle.erfc.specs.declared.answer.Refusal.{Refusal}
use Rattle.erfc.specs.declared.answer.Refusal.TheVariants.{Positive, Negative}

-- from the least bits up: +0 to the infinity, the NaNs, then -0 to the negative infinity and its NaNs
abbrev pub class_of : ℕ → Result Class Refusal
class_of b =
    cond (nat_le b 0x3c8c5bf891b4ef6a) (Ok One)
    (cond (nat_lt b 0x400713786d9c7c0a) (Err Positive)
    (cond (nat_lt b 0x4039db1bb14e15ca) (Ok FastTail)
    (cond (b == 0x403a8f7bfbd15495) (Ok Listed)
    (cond (nat_lt b 0x403b39dc41e48bfd) (Ok FarTail)
    (cond (nat_le b 0x7ff0000000000000) (Ok Zero)
    (cond (nat_lt b 0x8000000000000000) (Ok Nan)
    (cond (nat_le b 0xbc9c5bf891b4ef6a) (Ok One)
    (cond (nat_lt b 0xc017744f8f74e94b) (Err Negative)
    (cond (nat_le b 0xfff0000000000000) (Ok Two) (Ok Nan))))))))))
