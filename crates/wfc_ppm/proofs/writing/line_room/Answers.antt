use Rattle.std.proofs.Common.{arith}
use Rattle.wfc_ppm.proofs.WritingLemmas.{line_length}
use Rattle.wfc_ppm.proofs.writing.line_room.Goals as goal

pub returns-then-maxval-lt10 : goal.returns-then-maxval-lt10
returns-then-maxval-lt10 c = record { enough = λ pixel within. line_length 1 c.args.maxval pixel (omega arith) (omega arith) (omega arith) within }

pub returns-then-maxval-lt100 : goal.returns-then-maxval-lt100
returns-then-maxval-lt100 c = record { enough = λ pixel within. line_length 2 c.args.maxval pixel (omega arith) (omega arith) (omega arith) within }

pub returns-then-maxval-lt1000 : goal.returns-then-maxval-lt1000
returns-then-maxval-lt1000 c = record { enough = λ pixel within. line_length 3 c.args.maxval pixel (omega arith) (omega arith) (omega arith) within }

pub returns-else-maxval-lt1000 : goal.returns-else-maxval-lt1000
returns-else-maxval-lt1000 c = record { enough = λ pixel within. line_length 5 c.args.maxval pixel (omega arith) (omega arith) (omega arith) within }
