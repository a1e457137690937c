use Rattle.std.proofs.Common.{ℕ, List, ap, ◌∙◌, []}
use Rattle.buffer_machine.specs.declared.machine.BufMachine.TheInside.{Inside}
use Rattle.buffer_machine.specs.Stand.{first_stand}
use Rattle.buffer_machine.proofs.Whole.{IsMade, made}
use Rattle.buffer_machine.proofs.machine.BufMachine.new.Goals as goal

abbrev machine : goal.In_ok-walker → Inside
machine c =
    record {
      shape = c.shape_of-shape.result;
      lens = c.in_ok-lens.lens;
      values = c.put.new.self;
      walker = c.in_ok-walker.walker;
    }

is_made : (c : goal.In_ok-walker) → IsMade c.args.program.now (machine c) c.in_ok-values.values c.most_stores.result
is_made c =
    record {
      fits = record { few = c.requires.few; each = c.requires.each };
      size = c.shape_of-shape.ensures.size;
      modulus = c.shape_of-shape.ensures.modulus;
      procs = c.shape_of-shape.ensures.procs;
      line = c.shape_of-shape.ensures.line;
      lanes = c.shape_of-shape.ensures.lanes;
      regs = c.shape_of-shape.ensures.regs;
      lens = c.in_ok-lens.ensures;
      most_is = c.most_stores.ensures.each;
      values = c.in_ok-values.ensures;
      put = c.put.ensures ∙ ap (λ (ls : List ℕ). first_stand ls [] c.in_ok-values.values) c.deref.ensures.value;
      walker_code = c.in_ok-walker.ensures.code;
      walker_state = c.in_ok-walker.ensures.state;
    }

pub invariant_of-result : goal.invariant_of-result
invariant_of-result c = (made c.args.program.now (machine c) _ _ (is_made c)).0

pub returns-clause-state : goal.returns-clause-state
returns-clause-state c = (made c.args.program.now (machine c) _ _ (is_made c)).1
