-- What the crate's own types say in the words of the rules.
use Rattle.rules.specs.Script.{Signature}
use Rattle.records.specs.declared.Signature.{Signature as Line}

-- a line of the table of kinds, from the code's struct
abbrev pub said_line : Line → Signature
said_line a =
    record {
      operands = a.operands;
      r = a.r;
      ir = a.ir;
      c = a.c;
      ic = a.ic;
      number = a.number;
      typed = a.typed;
    }
