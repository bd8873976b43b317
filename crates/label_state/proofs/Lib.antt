mod LayersLaws
mod BucketSteps
