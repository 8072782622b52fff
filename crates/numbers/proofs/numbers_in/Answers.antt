use Rattle.numbers.specs.List.{numbers-long, numbers-odd, numbers-half}
use Rattle.numbers.proofs.numbers_in.Goals as goal
use Rattle.numbers.proofs.numbers_in.Goals.{else-bytes-le256-via-then-bytes-le256+else-bytes-eq0, else-bytes-le256-via-else-bytes-le256}

pub returns-then-bytes-eq0 : goal.returns-then-bytes-eq0
returns-then-bytes-eq0 c = numbers-half _ c.if-bytes-le256.true c.if-bytes-eq0.true

pub returns-else-bytes-le256 : goal.returns-else-bytes-le256
returns-else-bytes-le256 c = elim c.else-bytes-le256.branch [
  | else-bytes-le256-via-then-bytes-le256+else-bytes-eq0 w ↦ numbers-odd _ w.if-bytes-le256.true w.if-bytes-eq0.false
  | else-bytes-le256-via-else-bytes-le256 w ↦ numbers-long _ w.if-bytes-le256.false
]
