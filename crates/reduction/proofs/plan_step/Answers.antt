use Rattle.std.proofs.Common.{ℕ, ◌≡◌, ap, arith, subst as transport}
use Rattle.rules.specs.Script.{term}
use Rattle.records.proofs.Stands.{at_start}
use Rattle.calculus.specs.Security.{Security}
use Rattle.calculus.specs.Types.{Ty}
use Rattle.calculus.specs.Terms.{Term}
use Rattle.redex.specs.Found.{Finds}
use Rattle.redex.specs.declared.Found.{Found}
use Rattle.reduction.specs.Steps.{step_records, foresees_stop}
use Rattle.reduction.proofs.Starts.{started}
use Rattle.reduction.proofs.Ends.{ends_value, ends_denied, ends_stuck, found_site}
use Rattle.reduction.proofs.plan_step.Goals as goal

-- what the search found, named by the arm that was taken
found : {S : Security} {tab : ℕ → Ty} {e : Term} {x y : Found} → x ≡ y → Finds S tab 0 0 e x → Finds S tab 0 0 e y
found {S = S} {tab = tab} {e = e} is h = transport (λ (x : Found). Finds S tab 0 0 e x) is h

pub find-requires : goal.find-requires
find-requires c =
    let q = started c.requires in
    record { tree = term c.args.script.now; at = at_start _ q.encoded; shallow = omega (arith, q.fit.shallow) }

pub plan_at-requires : goal.plan_at-requires
plan_at-requires c = record {
  groups = c.args.groups.now;
  types = c.args.types.now;
  sited = record {
    start = c.requires;
    site = found_site (found c.in-Redex.is (c.find.ensures _ (at_start _ (started c.requires).encoded)));
  };
}

pub returns-in-Value : goal.returns-in-Value
returns-in-Value c =
    foresees_stop (ap step_records (ends_value c.args.room (found c.in-Value.is (c.find.ensures _ (at_start _ (started c.requires).encoded)))))

pub returns-in-Redex : goal.returns-in-Redex
returns-in-Redex c =
    c.plan_at.ensures c.args.groups.now c.args.types.now
    (record { start = c.requires; site = found_site (found c.in-Redex.is (c.find.ensures _ (at_start _ (started c.requires).encoded))) })

pub returns-in-Denied : goal.returns-in-Denied
returns-in-Denied c =
    foresees_stop (ap step_records (ends_denied c.args.room (found c.in-Denied.is (c.find.ensures _ (at_start _ (started c.requires).encoded)))))

pub returns-in-Stuck : goal.returns-in-Stuck
returns-in-Stuck c =
    foresees_stop (ap step_records (ends_stuck c.args.room (found c.in-Stuck.is (c.find.ensures _ (at_start _ (started c.requires).encoded)))))
