use Rattle.camkes_tool.proofs.Common.{separated}
use Rattle.camkes_tool.proofs.build_flow.checked_texts_are_separated.Goals as goal

pub returns : goal.returns
returns c = λ m cdl policy safe inside closed. separated safe.spec safe.labels.by_object safe.allowed.edges inside
    safe.stays closed
