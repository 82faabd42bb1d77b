-- The group that a recursion's unrolled calls are made as.
use Rattle.calculus.specs.Security.{Property, Reader, Security}

-- the same rules, but for the group that a recursive call is made as
abbrev pub called_as : (Property → Reader → Reader) → Security → Security
called_as caller S = record {
  le = S.le;
  le_i = S.le_i;
  join = S.join;
  meet = S.meet;
  fresh = S.fresh;
  raise = S.raise;
  permits = S.permits;
  influence = S.influence;
  caller = caller;
  absorbs = S.absorbs;
  secure = S.secure;
  secure_i = S.secure_i;
}

-- Today's rule: the group that the recursion carries.
abbrev pub as_written : Property → Reader → Reader
as_written k w = w

-- Form 1's rule: r of the recursion's type, whatever is written.
abbrev pub as_typed : Property → Reader → Reader
as_typed k w = k.r
