mod FaultSteps
mod DirectSteps
mod TakeSteps
mod PoolSteps
mod ReleaseSteps
mod ChunkSteps
mod SizeSteps
mod TraceSteps
