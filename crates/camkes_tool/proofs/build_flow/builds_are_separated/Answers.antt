use Rattle.camkes_tool.proofs.Common.{build_sound, object_labels, runs_stay, separated}
use Rattle.camkes_tool.proofs.build_flow.builds_are_separated.Goals as goal

pub returns : goal.returns
returns c = λ root contents b is inside closed.
    separated b.spec (object_labels b).by_object b.policy.edges inside
    (runs_stay b.spec (object_labels b).by_object b.policy.edges b.cert (build_sound root contents b is).valid) closed
