use Rattle.stage_pipeline.proofs.Joining.{joints_add_up, fault_goes_on, joints_drop_nothing, few_are_dropped}
use Rattle.stage_pipeline.proofs.joints.a_joint_adds_up.Goals as goal

pub returns-clause-weights : goal.returns-clause-weights
returns-clause-weights g = joints_add_up

pub returns-clause-fault : goal.returns-clause-fault
returns-clause-fault g = fault_goes_on

pub returns-clause-dropless : goal.returns-clause-dropless
returns-clause-dropless g = joints_drop_nothing

pub returns-clause-few : goal.returns-clause-few
returns-clause-few g = few_are_dropped
