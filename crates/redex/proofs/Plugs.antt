-- Plugging in bytes: a term in an evaluation context is what stands before the hole, the term, what stands after it.
use Rattle.std.proofs.Common.{◌≡◌, refl, sym, ap, ◌∙◌, ◌++◌, append_assoc, append-nil, ℕ, ◌+◌, ◌*◌, ◌≤◌, ◌<◌, max}
use Rattle.std.proofs.Common.{arith, length, take, drop, length-append, take_at, drop_at}
use Rattle.calculus.specs.Terms.{first, second, plus, less, Term}
use Rattle.calculus.specs.Reduction.{Context, hole, app_left, app_right, in_proj, in_inj, pair_left, pair_right}
use Rattle.calculus.specs.Reduction.{in_protect, in_case, reckon_left, reckon_right, plug}
use Rattle.calculus.proofs.Contexts.{compose}
use Rattle.rules.specs.Limits.{script_width}
use Rattle.rules.specs.Script.{encode, size, depth}
use Rattle.rules.proofs.PrefixLaws.{encode_length}
use Rattle.rules.proofs.TermCode.{term_code}
use Rattle.redex.specs.Contexts.{before, after, offset, level}
use Rattle.redex.proofs.Beside.{beside, depth_beside}

pub plug_bytes : (E : Context) (e : Term) → encode (plug E e) ≡ before E ++ (encode e ++ after E)
unfolding encode plug before after
plug_bytes hole e = sym (append-nil (encode e))
plug_bytes (app_left w E a) e = rw (plug_bytes E e) (simp append_assoc)
plug_bytes (app_right w v h E) e = rw (plug_bytes E e) (simp append_assoc)
plug_bytes (in_proj first w E) e = rw (plug_bytes E e)
plug_bytes (in_proj second w E) e = rw (plug_bytes E e)
plug_bytes (in_inj first k i E) e = rw (plug_bytes E e)
plug_bytes (in_inj second k i E) e = rw (plug_bytes E e)
plug_bytes (pair_left k E b) e = rw (plug_bytes E e) (simp append_assoc)
plug_bytes (pair_right k v h E) e = rw (plug_bytes E e) (simp append_assoc)
plug_bytes (in_protect m E) e = rw (plug_bytes E e)
plug_bytes (in_case w i E a b) e = rw (plug_bytes E e) (simp append_assoc)
plug_bytes (reckon_left plus w E b) e = rw (plug_bytes E e) (simp append_assoc)
plug_bytes (reckon_left (less i) w E b) e = rw (plug_bytes E e) (simp append_assoc)
plug_bytes (reckon_right plus w v h E) e = rw (plug_bytes E e) (simp append_assoc)
plug_bytes (reckon_right (less i) w v h E) e = rw (plug_bytes E e) (simp append_assoc)

pub plug_size : (E : Context) (e : Term) → size (plug E e) ≡ beside E + size e
unfolding size plug beside
plug_size hole e = omega arith
plug_size (app_left w E a) e = omega (arith, plug_size E e)
plug_size (app_right w v h E) e = omega (arith, plug_size E e)
plug_size (in_proj d w E) e = omega (arith, plug_size E e)
plug_size (in_inj d k i E) e = omega (arith, plug_size E e)
plug_size (pair_left k E b) e = omega (arith, plug_size E e)
plug_size (pair_right k v h E) e = omega (arith, plug_size E e)
plug_size (in_protect m E) e = omega (arith, plug_size E e)
plug_size (in_case w i E a b) e = omega (arith, plug_size E e)
plug_size (reckon_left o w E b) e = omega (arith, plug_size E e)
plug_size (reckon_right o w v h E) e = omega (arith, plug_size E e)

pub plug_depth : (E : Context) (e : Term) → depth (plug E e) ≡ max (depth_beside E) (level E + depth e)
unfolding depth plug depth_beside level
plug_depth hole e = omega arith
plug_depth (app_left w E a) e = omega (arith, plug_depth E e)
plug_depth (app_right w v h E) e = omega (arith, plug_depth E e)
plug_depth (in_proj d w E) e = omega (arith, plug_depth E e)
plug_depth (in_inj d k i E) e = omega (arith, plug_depth E e)
plug_depth (pair_left k E b) e = omega (arith, plug_depth E e)
plug_depth (pair_right k v h E) e = omega (arith, plug_depth E e)
plug_depth (in_protect m E) e = omega (arith, plug_depth E e)
plug_depth (in_case w i E a b) e = omega (arith, plug_depth E e)
plug_depth (reckon_left o w E b) e = omega (arith, plug_depth E e)
plug_depth (reckon_right o w v h E) e = omega (arith, plug_depth E e)

-- Where a term is within a depth, another term in its hole is past it exactly where its own records are.
pub plug_within : (E : Context) (e e' : Term) (n : ℕ) → depth (plug E e) ≤ n → level E + depth e' ≤ n → depth (plug E e') ≤ n
plug_within E e e' n h l = omega (arith, plug_depth E e, plug_depth E e')

pub plug_past : (E : Context) (e' : Term) (n : ℕ) → n < level E + depth e' → n < depth (plug E e')
plug_past E e' n l = omega (arith, plug_depth E e')

pub before_length : (E : Context) → length (before E) ≡ script_width * offset E
unfolding before offset
before_length hole = refl
before_length (app_left w E a) = omega (arith, before_length E)
before_length (app_right w v h E) = omega (arith, before_length E, length-append (encode v) (before E), encode_length term_code v)
before_length (in_proj d w E) = omega (arith, before_length E)
before_length (in_inj d k i E) = omega (arith, before_length E)
before_length (pair_left k E b) = omega (arith, before_length E)
before_length (pair_right k v h E) = omega (arith, before_length E, length-append (encode v) (before E), encode_length term_code v)
before_length (in_protect m E) = omega (arith, before_length E)
before_length (in_case w i E a b) = omega (arith, before_length E)
before_length (reckon_left plus w E b) = omega (arith, before_length E)
before_length (reckon_left (less i) w E b) = omega (arith, before_length E)
before_length (reckon_right plus w v h E) = omega (arith, before_length E, length-append (encode v) (before E), encode_length term_code v)
before_length (reckon_right (less i) w v h E) = omega (arith, before_length E, length-append (encode v) (before E), encode_length term_code v)

pub after_length : (E : Context) → script_width * offset E + length (after E) ≡ script_width * beside E
unfolding after offset beside
after_length hole = refl
after_length (app_left w E a) = omega (arith, after_length E, length-append (after E) (encode a), encode_length term_code a)
after_length (app_right w v h E) = omega (arith, after_length E)
after_length (in_proj d w E) = omega (arith, after_length E)
after_length (in_inj d k i E) = omega (arith, after_length E)
after_length (pair_left k E b) = omega (arith, after_length E, length-append (after E) (encode b), encode_length term_code b)
after_length (pair_right k v h E) = omega (arith, after_length E)
after_length (in_protect m E) = omega (arith, after_length E)
after_length (in_case w i E a b) =
    omega (
      arith,
      after_length E,
      length-append (after E) (encode a ++ encode b),
      length-append (encode a) (encode b),
      encode_length term_code a,
      encode_length term_code b,
    )
after_length (reckon_left o w E b) = omega (arith, after_length E, length-append (after E) (encode b), encode_length term_code b)
after_length (reckon_right o w v h E) = omega (arith, after_length E)

-- What stands around a term is what stands around another in its place.
pub before_is : (E : Context) (e : Term) → take (script_width * offset E) (encode (plug E e)) ≡ before E
before_is E e = rw (plug_bytes E e) (take_at (before E) (encode e ++ after E) (script_width * offset E) (before_length E))

pub after_is : (E : Context) (e : Term) → drop (script_width * (offset E + size e)) (encode (plug E e)) ≡ after E
after_is E e =
    ap (drop (script_width * (offset E + size e))) (plug_bytes E e ∙ sym (append_assoc (before E) (encode e) (after E)))
    ∙ drop_at (before E ++ encode e) (after E) (script_width * (offset E + size e))
    (omega (arith, length-append (before E) (encode e), before_length E, encode_length term_code e))

-- a context in a context
pub compose_offset : (E F : Context) → offset (compose E F) ≡ offset E + offset F
unfolding compose offset
compose_offset hole F = omega arith
compose_offset (app_left w E a) F = omega (arith, compose_offset E F)
compose_offset (app_right w v h E) F = omega (arith, compose_offset E F)
compose_offset (in_proj d w E) F = omega (arith, compose_offset E F)
compose_offset (in_inj d k i E) F = omega (arith, compose_offset E F)
compose_offset (pair_left k E b) F = omega (arith, compose_offset E F)
compose_offset (pair_right k v h E) F = omega (arith, compose_offset E F)
compose_offset (in_protect m E) F = omega (arith, compose_offset E F)
compose_offset (in_case w i E a b) F = omega (arith, compose_offset E F)
compose_offset (reckon_left o w E b) F = omega (arith, compose_offset E F)
compose_offset (reckon_right o w v h E) F = omega (arith, compose_offset E F)

pub compose_level : (E F : Context) → level (compose E F) ≡ level E + level F
unfolding compose level
compose_level hole F = omega arith
compose_level (app_left w E a) F = omega (arith, compose_level E F)
compose_level (app_right w v h E) F = omega (arith, compose_level E F)
compose_level (in_proj d w E) F = omega (arith, compose_level E F)
compose_level (in_inj d k i E) F = omega (arith, compose_level E F)
compose_level (pair_left k E b) F = omega (arith, compose_level E F)
compose_level (pair_right k v h E) F = omega (arith, compose_level E F)
compose_level (in_protect m E) F = omega (arith, compose_level E F)
compose_level (in_case w i E a b) F = omega (arith, compose_level E F)
compose_level (reckon_left o w E b) F = omega (arith, compose_level E F)
compose_level (reckon_right o w v h E) F = omega (arith, compose_level E F)
