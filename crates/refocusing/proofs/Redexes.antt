-- A redex that lies left, in its whole term: what its contractum is counted and written by.
use Rattle.std.proofs.Common.{◌≡◌, sym, ap, ◌∙◌, false, ◌||◌, [], append-nil, ℕ, ◌+◌, ◌-◌, ◌/◌, ◌≤◌, arith, nat_lt}
use Rattle.std.proofs.Common.{length, subst as transport}
use Rattle.calculus.specs.Terms.{Term}
use Rattle.calculus.specs.Reduction.{Context, plug}
use Rattle.rules.specs.Answer.{Bytes}
use Rattle.rules.specs.Limits.{script_width, script_limit, depth_limit}
use Rattle.rules.specs.Groups.{properties_of}
use Rattle.rules.specs.Types.{type_at}
use Rattle.rules.specs.Script.{encode, term, size, records}
use Rattle.rules.specs.Step.{exceeds}
use Rattle.rules.proofs.Scripts.{term_encode}
use Rattle.promises.proofs.Steps.{within_limits}
use Rattle.records.specs.Place.{At}
use Rattle.redex.specs.Contexts.{offset, level}
use Rattle.redex.specs.Fates.{contractum}
use Rattle.redex.specs.Found.{Site}
use Rattle.redex.proofs.Plugs.{plug_size, after_length}
use Rattle.memory.specs.Written.{Room}
use Rattle.memory.specs.declared.Writer.{Writer}
use Rattle.substitution.specs.declared.Size.{Size}
use Rattle.contraction.specs.Plans.{PlannedRedex, Measures, ContractumRoom}
use Rattle.contraction.specs.declared.Plan.{Plan}
use Rattle.contraction.proofs.Plans.{contractum_limit}
use Rattle.contraction.proofs.Rooms.{contractum_few}
use Rattle.reduction.proofs.Starts.{Started, started, named_sides}
use Rattle.reduction.proofs.Splices.{redex_at, redex_small, redex_shallow, exceeds_is}
use Rattle.refocusing.specs.declared.Point.{Point}
use Rattle.refocusing.specs.Gap.{Gap}
use Rattle.refocusing.specs.Contracted.{Contracting, Foremost}
use Rattle.refocusing.proofs.Gaps.{right_size, at_left}
use Rattle.std.proofs.lemmas.Grind.{common_steps}

-- a term that lies left in the hole of E
pub lies_left : {E : Context} {e : Term} {p : Point} {a b : Bytes} {at : ℕ} → Gap E (encode e) [] p a b → at ≡ offset E → At a at e
lies_left {e = e} {a = a} g h = transport (λ (i : ℕ). At a i e) (sym h) (at_left g e [] (sym (append-nil (encode e))))

-- A redex in its whole term.
module _ {g t s : Bytes} {at : ℕ} {plan : Plan} {E : Context} {e : Term} (q : Contracting g t s at plan E e) where
  abbrev pub part : Term
  part = contractum (properties_of g) (type_at t) e

  abbrev pub starts : Started g t (encode (plug E e))
  starts = started q.start

  abbrev pub site : Site (properties_of g) (type_at t) 0 0 (term (encode (plug E e))) (offset E) (level E)
  site = record {
    context = E;
    redex = e;
    whole = term_encode (plug E e);
    place_is = omega arith;
    around_is = omega arith;
    turn = q.turn;
    goes = q.goes;
  }

  abbrev pub ready : PlannedRedex s at plan
  ready = record {
    tree = e;
    stands = q.stands;
    planned = q.planned;
    small = redex_small starts site;
    shallow = omega (arith, redex_shallow starts site);
  }

  abbrev pub fit : (out : Writer) → Room (encode part) out → ContractumRoom g t s at plan out
  fit out room = record {
    order = starts.order;
    ready = ready;
    contracts = q.goes;
    table = starts.table;
    sides = named_sides starts (redex_at starts site);
    room = room;
  }

-- Where it lies left, the gap counts the new term's records.
module _ {g t : Bytes} {at around : ℕ} {plan : Plan} {p : Point} {a b : Bytes} {E : Context} {e : Term} (q : Foremost g t at around plan p a b E e) where
  abbrev new : Term
  new = part q.contracts

  pub around_small : around ≤ depth_limit
  around_small = omega (arith, q.around_is, redex_shallow (starts q.contracts) (site q.contracts))

  pub few : {m : Size} → Measures new m → m.records ≤ contractum_limit + 1
  few m = omega (arith, m.records, contractum_few (properties_of g) (type_at t) plan (ready q.contracts))

  total : {m : Size} {n : ℕ} → Measures new m → n ≡ records b → at + m.records + (n - p.right) ≡ size (plug E new)
  total m n = omega (arith, m.records, n, q.at_is, right_size q.gap, after_length E, plug_size E new)

  -- what stands beside the redex
  pub few_beside : {n : ℕ} → n ≡ records b → at + (n - p.right) ≤ script_limit
  few_beside n =
      let w : size (plug E e) ≤ script_limit = omega (arith, (starts q.contracts).fit.small, ap size (term_encode (plug E e))) in
      omega (arith, n, q.at_is, right_size q.gap, after_length E, plug_size E e, w)

  -- as the code asks it
  pub too_big_is : {m : Size} {n : ℕ} → Measures new m → n ≡ records b
      → (nat_lt script_limit (at + m.records + (n - p.right)) || (nat_lt (length b / script_width) (at + m.records + (n - p.right)) || nat_lt depth_limit (around + m.depth)))
      ≡ exceeds (length b) (plug E new)
  too_big_is {m} {n} k h =
      ap (λ (d : ℕ). nat_lt script_limit (at + m.records + (n - p.right)) || (nat_lt (length b / script_width) (at + m.records + (n - p.right)) || nat_lt depth_limit (d + m.depth))) q.around_is
      ∙ exceeds_is (starts q.contracts) (site q.contracts) (length b) _ _ new (total k h) k.deep

  -- What isn't too big fits between what stands before the redex and what comes next.
  pub makes_room : exceeds (length b) (plug E new) ≡ false → at + size new ≤ p.right
  makes_room h = grind (arith, common_steps, within_limits, right_size, after_length, plug_size)
